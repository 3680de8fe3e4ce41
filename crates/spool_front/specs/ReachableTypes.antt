-- The types of printers that documents can be converted to.
use Rattle.std.specs.Prelude.{ℕ, Bool, List, [], ◌∷◌, ◌++◌, Option, None, Some, codes, is_some}
use Rattle.std.specs.List.{flat_map}
use Rattle.line_words.specs.Blanks.{first_word}
use Rattle.mime_costs.specs.LeastWalk.{filters_between}
use Rattle.mime_costs.specs.declared.conversion.Conversion.{Conversion}
use Rattle.mime_lines.specs.JoinedLines.{Line, joined_lines}
use Rattle.spool_types.specs.Values.{media_in}

-- Filters convert from one type to another.
abbrev pub leads : List Conversion → List ℕ → List ℕ → Bool
leads conversions to from = is_some (filters_between conversions from to)

abbrev pub listed : Option (List ℕ) → List (List ℕ)
listed None = []
listed (Some kind) = kind ∷ []

-- The type that a line of the file of types defines, if its first word is one.
abbrev pub kind_of : Line → List (List ℕ)
kind_of line = listed (media_in (first_word line.text))

-- The types of documents by a file of types. The first is that of an unrecognized document.
abbrev pub kinds_in : List ℕ → List (List ℕ)
kinds_in text = listed (media_in (codes "application/octet-stream")) ++ flat_map kind_of (joined_lines text)
