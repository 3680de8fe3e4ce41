-- The result of reading from the front of a list.
use Rattle.std.specs.Prelude.{ℕ, Bool, cond, ◌==◌, List, [], ◌∷◌}
use Rattle.spool_types.specs.declared.warning.WarningKind.{WarningKind}
use Rattle.spool_types.specs.declared.warning.WarningKind.TheVariants.{BadRule}

-- A value and the rest, or the error.
pub data Read (X A : Type 0) : Type 0 where
  read : A → List X → Read X A
  wrong : WarningKind → Read X A

-- Continues after a value has been read.
abbrev pub on : {X A B : Type 0} → (A → List X → Read X B) → Read X A → Read X B
on next (read a rest) = next a rest
on next (wrong kind) = wrong kind

-- The elements before the first that passes, and the elements from there on.
abbrev pub before : (ℕ → Bool) → List ℕ → List ℕ
before test [] = []
before test (b ∷ bs) = cond (test b) [] (b ∷ before test bs)

abbrev pub from : (ℕ → Bool) → List ℕ → List ℕ
from test [] = []
from test (b ∷ bs) = cond (test b) (b ∷ bs) (from test bs)

-- The wanted byte, if it is next.
abbrev pub closed_by : ℕ → List ℕ → Read ℕ ℕ
closed_by c [] = wrong BadRule
closed_by c (b ∷ bs) = cond (b == c) (read c bs) (wrong BadRule)
