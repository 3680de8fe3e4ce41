-- The lines of a file of mime.types(5).
use Rattle.std.specs.Prelude.{ℕ, Bool, List, Option, None, Some}
use Rattle.std.specs.List.{filter_map}
use Rattle.spool_types.specs.Values.{media_in}
use Rattle.spool_types.specs.declared.warning.Warning.{Warning}
use Rattle.spool_types.specs.declared.warning.WarningKind.{WarningKind}
use Rattle.spool_types.specs.declared.warning.WarningKind.TheVariants.{BadType}
use Rattle.line_words.specs.Blanks.{first_word, after_word}
use Rattle.mime_lines.specs.JoinedLines.{Line, joined_lines}
use Rattle.mime_rules.specs.RuleReading.{Read, read, wrong}
use Rattle.mime_rules.specs.Tests.{Subject}
use Rattle.mime_rules.specs.Tokens.{Token, tokens_of}
use Rattle.mime_rules.specs.RuleGrammar.{list_of, priority_of}

-- One alternative of a type.
pub record Alternative : Type 0 where
  pub media : List ℕ
  pub priority : ℕ
  pub rule : Subject → Bool

-- The alternative of a line, or the error that makes it invalid.
pub data Outcome : Type 0 where
  good : Alternative → Outcome
  bad : WarningKind → Outcome

-- The alternative with this list.
abbrev pub with_list : List ℕ → ℕ → Read Token (Subject → Bool) → Outcome
with_list media p (read m rest) = good (record { media = media; priority = p; rule = m })
with_list media p (wrong kind) = bad kind

abbrev pub with_tokens : List ℕ → List Token → Outcome
with_tokens media ts = with_list media (priority_of ts) (list_of ts)

-- The type comes first.
abbrev pub with_type : Option (List ℕ) → List ℕ → Outcome
with_type None rest = bad BadType
with_type (Some media) rest = with_tokens media (tokens_of rest)

abbrev pub outcome_of : List ℕ → Outcome
outcome_of line = with_type (media_in (first_word line)) (after_word line)

abbrev pub alternative_in : Outcome → Option Alternative
alternative_in (good a) = Some a
alternative_in (bad kind) = None

abbrev pub warning_in : ℕ → Outcome → Option Warning
warning_in number (good a) = None
warning_in number (bad kind) = Some (record { line = number; kind = kind })

-- The alternatives of these lines, in order.
abbrev pub alternatives_in : List Line → List Alternative
alternatives_in lines = filter_map (λ line. alternative_in (outcome_of line.text)) lines

-- The warnings of these lines, in order.
abbrev pub warnings_in : List Line → List Warning
warnings_in lines = filter_map (λ line. warning_in line.number (outcome_of line.text)) lines

abbrev pub alternatives_of : List ℕ → List Alternative
alternatives_of text = alternatives_in (joined_lines text)

abbrev pub warnings_of : List ℕ → List Warning
warnings_of text = warnings_in (joined_lines text)
