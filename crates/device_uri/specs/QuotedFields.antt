-- The quoted fields of a device line.
use Rattle.std.specs.Prelude.{◌≡◌, ℕ, ◌≤◌, Bool, true, false, cond, List, [], ◌∷◌, ◌++◌, length, Option, None, Some}
use Rattle.std.specs.List.{list_all}
use Rattle.line_words.specs.Blanks.{is_blank}
use Rattle.line_words.specs.Quotes.{is_quote, is_backslash, escape_of}

-- One or more blanks.
pub record IsBlanks (bytes : List ℕ) : Type 0 where
  pub some : 1 ≤ length bytes
  pub blank : list_all is_blank bytes ≡ true

-- More bytes in front of a field.
abbrev pub in_front : List ℕ → Option (List ℕ) → Option (List ℕ)
in_front bytes None = None
in_front bytes (Some field) = Some (bytes ++ field)

-- The field that is written as these bytes between two quotes. None if a quote among them ends it, or if their last backslash escapes the
-- closing quote. `escaped` means that a backslash is directly before.
abbrev pub unescaped : Bool → List ℕ → Option (List ℕ)
unescaped false [] = Some []
unescaped true [] = None
unescaped true (b ∷ bs) = in_front (escape_of b) (unescaped false bs)
unescaped false (b ∷ bs) = cond (is_quote b) None (cond (is_backslash b) (unescaped true bs) (in_front (b ∷ []) (unescaped false bs)))

-- The line is blanks, the field between quotes, and this rest.
pub record IsField (field line rest : List ℕ) : Type 0 where
  pub blanks : List ℕ
  pub inside : List ℕ
  pub between : IsBlanks blanks
  pub whole : line ≡ blanks ++ (34 ∷ (inside ++ 34 ∷ rest))
  pub says : unescaped false inside ≡ Some field
  pub short : length field ≤ 1023

-- The same for an optional field: if it is absent, the line ends before it.
abbrev pub IsFieldIfAny : Option (List ℕ) → List ℕ → List ℕ → Type 0
IsFieldIfAny None line rest = (line ≡ []) × (rest ≡ [])
IsFieldIfAny (Some field) line rest = IsField field line rest
