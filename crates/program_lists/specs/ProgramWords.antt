-- The kinds of words of a line, as tests of their bytes.
use Rattle.std.specs.Prelude.{ℕ, Bool, false, ◌||◌, ◌&&◌, not, nat_le, ◌==◌, List, [], ◌∷◌}
use Rattle.std.specs.List.{list_all}
use Rattle.line_words.specs.Blanks.{is_blank}

-- Neither a blank nor `=`.
abbrev pub is_path_byte : ℕ → Bool
is_path_byte b = not (is_blank b) && not (b == 61)

-- An absolute path, without blanks and without `=`.
abbrev pub is_path : List ℕ → Bool
is_path [] = false
is_path (b ∷ bs) = b == 47 && list_all is_path_byte (b ∷ bs)

-- No blank.
abbrev pub is_word : List ℕ → Bool
is_word text = list_all (λ b. not (is_blank b)) text

abbrev pub is_small_letter : ℕ → Bool
is_small_letter b = nat_le 97 b && nat_le b 122

-- A lower-case letter, a digit or one of `+-.`.
abbrev pub is_scheme_byte : ℕ → Bool
is_scheme_byte b = is_small_letter b || (nat_le 48 b && nat_le b 57) || b == 43 || b == 45 || b == 46

-- The scheme of a URI (RFC 3986) in lower case.
abbrev pub is_scheme : List ℕ → Bool
is_scheme [] = false
is_scheme (b ∷ bs) = is_small_letter b && list_all is_scheme_byte bs
