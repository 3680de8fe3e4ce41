-- Which queues a half has.
use Rattle.std.specs.Prelude.{Bool, true, false, not, nat_eq, ℕ, List}
use Rattle.std.specs.Cmp.Lexicographic.{pointwise}
use Rattle.std.specs.List.{list_any}

-- The name is one of the names.
abbrev pub is_named : List (List ℕ) → List ℕ → Bool
is_named names name = list_any (λ n. pointwise nat_eq n name) names

-- One half has the queues with these names, the other has all others.
abbrev pub takes : Bool → List (List ℕ) → List ℕ → Bool
takes true names name = is_named names name
takes false names name = not (is_named names name)
