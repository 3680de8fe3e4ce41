-- The facts of a queue, by its rows.
use Rattle.std.specs.Prelude.{◌≡◌, ℕ, Bool, ◌&&◌, is_some, ◌+◌, List, [], ◌∷◌, ◌++◌, codes, cond, drop, filter, length, Option, None, Some, Vec}
use Rattle.std.specs.Global.{Global}
use Rattle.std.specs.List.{list_any}
use Rattle.spool_types.specs.Limits.{greatest_number}
use Rattle.spool_types.specs.Values.{is_queue_name, is_uri, media_in, text_in}
use Rattle.line_words.specs.Blanks.{first_word}
use Rattle.line_words.specs.DecimalNumbers.{decimal}
use Rattle.command_lines.specs.CommandNumbers.{ranged}
use Rattle.front_texts.specs.ReplyFields.{is_word}
use Rattle.mime_costs.specs.declared.conversion.Conversion.{Conversion}
use Rattle.printer_answers.specs.PrinterAnswers.{leads_to}
use Rattle.printer_answers.specs.declared.facts.PrinterFacts.{PrinterFacts}
use Rattle.ipp_facts.specs.JobReports.{in_time, seconds_of}
use Rattle.ipp_facts.specs.ShownUris.{without_user}

-- The rest of a row after its name and a blank.
abbrev pub value_in : List ℕ → List ℕ → List ℕ
value_in row name = drop (length name + 1) row

-- The value of the first row with this name.
abbrev pub value_of : List (Vec ℕ Global) → List ℕ → List ℕ
value_of [] name = []
value_of (row ∷ rows) name = cond (is_word (first_word row.items) name) (value_in row.items name) (value_of rows name)

abbrev pub number_or_zero : Option ℕ → ℕ
number_or_zero None = 0
number_or_zero (Some number) = number

-- A number up to this one, or zero.
abbrev pub number_of : List (Vec ℕ Global) → List ℕ → ℕ → ℕ
number_of rows name most = number_or_zero (decimal most (value_of rows name))

-- The rows have the name and the type of a queue.
abbrev pub names_a_queue : List (Vec ℕ Global) → Bool
names_a_queue rows = is_some (media_in (value_of rows (codes "type"))) && is_some (text_in is_queue_name (value_of rows (codes "queue")))

abbrev pub has_type : List (List ℕ) → List ℕ → Bool
has_type types media = list_any (λ other. is_word other media) types

-- The types of documents that a queue of this type takes: those of which a chain of filters makes it, and its own.
abbrev pub formats_of : List Conversion → List (List ℕ) → List ℕ → List (List ℕ)
formats_of convs types target =
    cond (has_type (filter (leads_to convs target) types) target) (filter (leads_to convs target) types) (filter (leads_to convs target) types ++ target ∷ [])

abbrev pub formats_for : List Conversion → List (List ℕ) → Option (List ℕ) → List (List ℕ)
formats_for convs types None = []
formats_for convs types (Some target) = formats_of convs types target

-- The facts are those of the rows, without the name and the password in the device's URI.
abbrev pub IsReportOf : List (Vec ℕ Global) → PrinterFacts → Type 0
IsReportOf rows facts =
    (text_in is_queue_name (value_of rows (codes "queue")) ≡ Some facts.name)
    × (facts.uri ≡ text_in is_uri (without_user (value_of rows (codes "uri"))))
    × (facts.accepting ≡ is_word (value_of rows (codes "accepting")) (codes "yes"))
    × (facts.stopped ≡ is_word (value_of rows (codes "stopped")) (codes "yes"))
    × (facts.printing ≡ ranged 1 greatest_number (value_of rows (codes "printing")))
    × (facts.waiting ≡ number_of rows (codes "waiting") 2147483647)
    × (seconds_of facts.changed ≡ in_time (number_of rows (codes "changed") 1099511627776))
