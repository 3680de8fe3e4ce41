-- The byte offsets where a script is cut.
use Rattle.std.specs.Prelude.{◌≡◌, ℕ, Bool, IsTrue, ◌==◌, ◌||◌, ◌-◌, List, drop, length, slice_index, take}

-- A line begins at this offset.
abbrev pub begins_line : List ℕ → ℕ → Bool
begins_line script at = at == 0 || slice_index script (at - 1) == 10

-- The line that cuts the script begins at this offset.
pub record IsCut (script line : List ℕ) (at : ℕ) : Type 0 where
  pub begins : IsTrue (begins_line script at)
  pub same : take (length line) (drop at script) ≡ line
