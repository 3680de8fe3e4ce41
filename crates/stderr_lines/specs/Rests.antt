-- The unread rest of a text that is split into words. Internal: no caller needs this.
use Rattle.std.specs.Prelude.{ℕ, ◌+◌, List, [], Option, None, Some, length}
use Rattle.std.specs.List.{slice_split}
use Rattle.stderr_lines.specs.ReasonLines.{is_separator, reasons_of}
use Rattle.line_words.specs.Quoting.{pieces}
use Rattle.line_words.specs.declared.quoting.Quoting.TheVariants.{Bare}

-- The pieces of a rest between separators, if there is a rest.
abbrev pub pieces_behind : Option (List ℕ) → List (List ℕ)
pieces_behind None = []
pieces_behind (Some rest) = slice_split is_separator rest

-- The reasons of a rest, if there is a rest.
abbrev pub reasons_from : Option (List ℕ) → List (List ℕ)
reasons_from None = []
reasons_from (Some rest) = reasons_of rest

-- The words of a rest, if there is a rest.
abbrev pub words_behind : Option (List ℕ) → List (List ℕ)
words_behind None = []
words_behind (Some rest) = pieces Bare rest

-- Decreases from rest to rest.
abbrev pub rest_weight : Option (List ℕ) → ℕ
rest_weight None = 0
rest_weight (Some rest) = length rest + 1
