-- The room of the spool, which a submission asks for before it sends.
use Rattle.std.specs.Prelude.{ℕ, ◌++◌, List, codes, cond, nat_lt, Option, None, Some}
use Rattle.std.specs.Fmt as fmt
use Rattle.std.specs.List.{before_first, after_first}
use Rattle.line_words.specs.DecimalNumbers.{decimal}
use Rattle.command_lines.specs.CommandGrammar.{is_word}
use Rattle.front_texts.specs.ReplyLines.{Last, done, refused, failed, last_line, is_space}

-- The number after `ok room`.
abbrev pub room_as : Option Last → Option ℕ
room_as None = None
room_as (Some (done words)) = cond (is_word (before_first is_space words) (codes "room")) (decimal 1099511627776 (after_first is_space words)) None
room_as (Some (refused number name)) = None
room_as (Some (failed word)) = None

abbrev pub room_in : List ℕ → Option ℕ
room_in line = room_as (last_line line)

abbrev pub too_long_text : ℕ → ℕ → List ℕ
too_long_text size room = codes "the document has " ++ (fmt.decimal size ++ (codes " bytes, and the spool has room for " ++ fmt.decimal room))

-- Why a document of this length is not sent, if the service reports less room. An older service does not know the question.
abbrev pub lacking_text : ℕ → Option ℕ → Option (List ℕ)
lacking_text size None = None
lacking_text size (Some room) = cond (nat_lt room size) (Some (too_long_text size room)) None
