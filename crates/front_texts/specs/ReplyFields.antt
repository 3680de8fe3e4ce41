-- The fields of a row: words, numbers, reasons and texts in quotes.
use Rattle.std.specs.Prelude.{ℕ, Bool, true, false, cond, List, [], ◌∷◌, codes, Option, None, Some}
use Rattle.std.specs.Option.{option_map, option_and_then}
use Rattle.line_words.specs.Blanks.{after_blanks}
use Rattle.line_words.specs.DecimalNumbers.{decimal}
use Rattle.line_words.specs.Quotes.{is_quote, QuotedFront, quoted}
use Rattle.spool_types.specs.Limits.{greatest_moment}
use Rattle.spool_types.specs.Values.{is_reason, text_in}
use Rattle.command_lines.specs.CommandGrammar.{is_word as is_same, policy_in as read_policy}
use Rattle.spool_types.specs.declared.phase.Policy.{Policy}
use Rattle.front_texts.specs.StateWords.{job_state_in, printer_state_in}
use Rattle.front_texts.specs.declared.states.JobState.{JobState}
use Rattle.front_texts.specs.declared.states.PrinterState.{PrinterState}

-- The word equals this one.
abbrev pub is_word : List ℕ → List ℕ → Bool
is_word word name = is_same word name

-- The text in quotes at the front of a line, and the text after it.
abbrev pub quoted_here : List ℕ → QuotedFront
quoted_here [] = None
quoted_here (b ∷ bs) = cond (is_quote b) (quoted false bs) None

abbrev pub text_of : QuotedFront → Option (List ℕ)
text_of None = None
text_of (Some (text, rest)) = Some text

abbrev pub rest_of : QuotedFront → List ℕ
rest_of None = []
rest_of (Some (text, rest)) = rest

abbrev pub quoted_text : List ℕ → Option (List ℕ)
quoted_text line = text_of (quoted_here (after_blanks line))

abbrev pub after_quoted : List ℕ → List ℕ
after_quoted line = rest_of (quoted_here (after_blanks line))

abbrev pub is_empty : List ℕ → Bool
is_empty [] = true
is_empty (b ∷ bs) = false

-- Only blanks follow.
abbrev pub is_end : List ℕ → Bool
is_end rest = is_empty (after_blanks rest)

abbrev pub count_in : List ℕ → Option ℕ
count_in word = decimal 4294967295 word

abbrev pub limit_in : List ℕ → Option ℕ
limit_in word = decimal 65535 word

-- An interval in seconds.
abbrev pub interval_in : List ℕ → Option ℕ
interval_in word = decimal 86400 word

abbrev pub moment_in : List ℕ → Option ℕ
moment_in word = decimal greatest_moment word

abbrev pub job_state_of : List ℕ → Option JobState
job_state_of word = option_and_then job_state_in (decimal 9 word)

abbrev pub printer_state_of : List ℕ → Option PrinterState
printer_state_of word = option_and_then printer_state_in (decimal 9 word)

-- A reason or `none`.
abbrev pub reason_in : List ℕ → Option (Option (List ℕ))
reason_in word = cond (is_word word (codes "none")) (Some None) (option_map (λ reason. Some reason) (text_in is_reason word))

abbrev pub policy_in : List ℕ → Option Policy
policy_in word = read_policy word

abbrev pub accepting_in : List ℕ → Option Bool
accepting_in word = cond (is_word word (codes "accepting")) (Some true) (cond (is_word word (codes "rejecting")) (Some false) None)
