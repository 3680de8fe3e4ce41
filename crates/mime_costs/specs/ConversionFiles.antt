-- The conversions of a file of mime.convs(5), and its errors.
use Rattle.std.specs.Prelude.{ℕ, Bool, ◌&&◌, not, cond, nat_le, ◌==◌, List, [], ◌∷◌, length, Option, None, Some, Result, Ok, Err}
use Rattle.std.specs.List.{flat_map}
use Rattle.line_words.specs.Blanks.{first_word, after_word}
use Rattle.mime_lines.specs.JoinedLines.{Line, joined_lines}
use Rattle.mime_lines.specs.RuleNumbers.{number_of}
use Rattle.spool_types.specs.Values.{is_media_type, is_filter_name, text_in, folded_in}
use Rattle.spool_types.specs.declared.warning.Warning.{Warning}
use Rattle.spool_types.specs.declared.warning.WarningKind.{WarningKind}
use Rattle.spool_types.specs.declared.warning.WarningKind.TheVariants.{BadType, BadNumber, BadLine}
use Rattle.mime_costs.specs.Conversions.{is_source}
use Rattle.mime_costs.specs.declared.conversion.Conversion.{Conversion}

-- The greatest cost of a conversion.
abbrev pub greatest_cost : ℕ
greatest_cost = 10000

-- The number, if it is within the range of a cost.
abbrev pub cheap : Option ℕ → Option ℕ
cheap None = None
cheap (Some n) = cond (nat_le n greatest_cost) (Some n) None

abbrev pub cost_in : List ℕ → Option ℕ
cost_in word = cheap (number_of word)

-- The words of a line.
pub record Words : Type 0 where
  pub source : List ℕ
  pub destination : List ℕ
  pub cost : List ℕ
  pub filter : List ℕ

abbrev pub is_empty : List ℕ → Bool
is_empty word = length word == 0

-- The four words of a line, which has a fourth and no fifth.
abbrev pub four_words : List ℕ → Option Words
four_words line =
    let behind_source = after_word line in
    let behind_destination = after_word behind_source in
    let behind_cost = after_word behind_destination in
    let words : Words = record { source = first_word line; destination = first_word behind_source; cost = first_word behind_destination; filter = first_word behind_cost } in
    cond (not (is_empty words.filter) && is_empty (first_word (after_word behind_cost))) (Some words) None

-- The conversion of a line, part by part. An invalid part is its error.
abbrev pub with_filter : ℕ → List ℕ → List ℕ → ℕ → Option (List ℕ) → Result Conversion WarningKind
with_filter n source destination cost None = Err BadLine
with_filter n source destination cost (Some filter) = Ok (record { line = n; source = source; destination = destination; cost = cost; filter = filter })

abbrev pub with_cost : ℕ → List ℕ → List ℕ → Option ℕ → List ℕ → Result Conversion WarningKind
with_cost n source destination None filter = Err BadNumber
with_cost n source destination (Some cost) filter = with_filter n source destination cost (text_in is_filter_name filter)

abbrev pub with_destination : ℕ → List ℕ → Option (List ℕ) → Words → Result Conversion WarningKind
with_destination n source None words = Err BadType
with_destination n source (Some destination) words = with_cost n source destination (cost_in words.cost) words.filter

abbrev pub with_source : ℕ → Option (List ℕ) → Words → Result Conversion WarningKind
with_source n None words = Err BadType
with_source n (Some source) words = with_destination n source (folded_in is_media_type words.destination) words

abbrev pub of_words : ℕ → Option Words → Result Conversion WarningKind
of_words n None = Err BadLine
of_words n (Some words) = with_source n (folded_in is_source words.source) words

-- The conversion of a line, or its first error from left to right.
abbrev pub conversion_of : Line → Result Conversion WarningKind
conversion_of line = of_words line.number (four_words line.text)

-- The conversions of the valid lines, in order.
abbrev pub taken : Result Conversion WarningKind → List Conversion
taken (Ok conversion) = conversion ∷ []
taken (Err kind) = []

-- A warning for each invalid line, in order.
abbrev pub refused : ℕ → Result Conversion WarningKind → List Warning
refused n (Ok conversion) = []
refused n (Err kind) = record { line = n; kind = kind } ∷ []

abbrev pub conversions_in : List Line → List Conversion
conversions_in lines = flat_map (λ line. taken (conversion_of line)) lines

abbrev pub warnings_in : List Line → List Warning
warnings_in lines = flat_map (λ line. refused line.number (conversion_of line)) lines

abbrev pub conversions_of : List ℕ → List Conversion
conversions_of text = conversions_in (joined_lines text)

abbrev pub warnings_of : List ℕ → List Warning
warnings_of text = warnings_in (joined_lines text)
