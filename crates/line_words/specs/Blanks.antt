-- Blanks, and the words between them.
use Rattle.std.specs.Prelude.{ℕ, Bool, ◌||◌, cond, ◌==◌, List, [], ◌∷◌}
use Rattle.std.specs.List.{list_all}

-- A space or a tab.
abbrev pub is_blank : ℕ → Bool
is_blank b = (b == 32) || (b == 9)

-- The bytes after the blanks at the front.
abbrev pub after_blanks : List ℕ → List ℕ
after_blanks [] = []
after_blanks (b ∷ bs) = cond (is_blank b) (after_blanks bs) (b ∷ bs)

-- The bytes before the first blank.
abbrev pub word_here : List ℕ → List ℕ
word_here [] = []
word_here (b ∷ bs) = cond (is_blank b) [] (b ∷ word_here bs)

-- The bytes from the first blank on.
abbrev pub behind_word : List ℕ → List ℕ
behind_word [] = []
behind_word (b ∷ bs) = cond (is_blank b) (b ∷ bs) (behind_word bs)

-- The first word of a line, empty if the line has none.
abbrev pub first_word : List ℕ → List ℕ
first_word line = word_here (after_blanks line)

-- The bytes after the first word.
abbrev pub after_word : List ℕ → List ℕ
after_word line = behind_word (after_blanks line)

-- Only blanks.
abbrev pub is_nothing : List ℕ → Bool
is_nothing bytes = list_all is_blank bytes

-- The bytes without the blanks at the end.
abbrev pub without_end : List ℕ → List ℕ
without_end [] = []
without_end (b ∷ bs) = cond (is_nothing (b ∷ bs)) [] (b ∷ without_end bs)

-- The bytes without the blanks at both ends.
abbrev pub trimmed : List ℕ → List ℕ
trimmed bytes = without_end (after_blanks bytes)
