-- Bytes in the notation of the examples.
use Rattle.std.specs.Prelude.{ℕ, ◌+◌, ◌-◌, ◌*◌, zero, suc, cond, nat_le, ◌==◌, List, [], ◌∷◌, map}

-- The value of a hexadecimal digit.
abbrev pub digit : ℕ → ℕ
digit c = cond (nat_le 65 c) (c - 55) (c - 48)

-- Bytes written as two digits each, separated by blanks.
abbrev pub hex : List ℕ → List ℕ
hex (a ∷ b ∷ blank ∷ rest) = (digit a * 16 + digit b) ∷ hex rest
hex (a ∷ b ∷ []) = (digit a * 16 + digit b) ∷ []
hex (a ∷ []) = []
hex [] = []

-- A text with `~` for a tab.
abbrev pub with_tab : ℕ → ℕ
with_tab c = cond (c == 126) 9 c

abbrev pub tabbed : List ℕ → List ℕ
tabbed text = map with_tab text

-- A value repeated this number of times.
abbrev pub times : {Y : Type 0} → ℕ → Y → List Y
times zero y = []
times (suc n) y = y ∷ times n y
