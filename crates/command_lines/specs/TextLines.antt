-- The first line of a text, and the text after it.
use Rattle.std.specs.Prelude.{ℕ, Bool, true, false, cond, ◌==◌, List, [], ◌∷◌}

-- A line feed is the byte 10.
abbrev pub has_lf : List ℕ → Bool
has_lf [] = false
has_lf (b ∷ bs) = cond (b == 10) true (has_lf bs)

-- The text up to the first line feed, or all of it.
abbrev pub first_line : List ℕ → List ℕ
first_line [] = []
first_line (b ∷ bs) = cond (b == 10) [] (b ∷ first_line bs)

-- The text after the first line feed, or nothing.
abbrev pub after_line : List ℕ → List ℕ
after_line [] = []
after_line (b ∷ bs) = cond (b == 10) bs (after_line bs)
