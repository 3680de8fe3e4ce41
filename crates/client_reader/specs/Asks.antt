-- The requests in the text of a client: commands of the engine, and words of the service itself.
use Rattle.std.specs.Prelude.{ℕ, zero, suc, ◌+◌, cond, nat_le, List, [], ◌∷◌, length, take, drop, Option, None, Some}
use Rattle.command_lines.specs.TextLines.{first_line, after_line}
use Rattle.command_lines.specs.CommandGrammar.{kind_of}
use Rattle.command_lines.specs.Text.{is_lf_at, sent}
use Rattle.command_lines.specs.declared.command.Command.TheVariants.{Malformed}
use Rattle.command_lines.specs.declared.command.Kind.{Kind}
use Rattle.command_lines.specs.declared.command.Kind.TheVariants.{Remark, Says, Takes}
use Rattle.service_texts.specs.ServiceWords.{own_word}
use Rattle.service_texts.specs.declared.own_words.OwnWord.{OwnWord}
use Rattle.client_reader.specs.declared.ask.Ask.{Ask}
use Rattle.client_reader.specs.declared.ask.Ask.TheVariants.{Command, Own}

-- The request to the service on a line, which is at most as long as a line of a command may be.
abbrev pub own_of : List ℕ → Option OwnWord
own_of line = cond (nat_le (length line) 4096) (own_word line) None

-- The bytes of a send and LF, and then the requests of the rest; otherwise a malformed command, and reading continues after the next LF.
abbrev pub after_send : (List ℕ → List Ask) → ℕ → ℕ → List ℕ → List Ask
after_send reading job n text =
    cond (is_lf_at n text)
    (Command (sent job n (take n text)) ∷ reading (drop (n + 1) text))
    (Command Malformed ∷ reading (after_line (drop n text)))

-- A line of this kind, and then the requests of the rest.
abbrev pub after_kind : (List ℕ → List Ask) → Kind → List ℕ → List Ask
after_kind reading Remark rest = reading rest
after_kind reading (Says c) rest = Command c ∷ reading rest
after_kind reading (Takes job n) rest = after_send reading job n rest

-- A word of the service, or a line of this kind.
abbrev pub after_own : (List ℕ → List Ask) → Option OwnWord → Kind → List ℕ → List Ask
after_own reading (Some word) kind rest = Own word ∷ reading rest
after_own reading None kind rest = after_kind reading kind rest

-- The requests of a text, of at most this number of lines.
unfoldable pub asks_within : ℕ → List ℕ → List Ask
asks_within zero text = []
asks_within (suc k) [] = []
asks_within (suc k) (b ∷ bs) = after_own (asks_within k) (own_of (first_line (b ∷ bs))) (kind_of (first_line (b ∷ bs))) (after_line (b ∷ bs))

-- The requests of a text, in order. No text has more lines than bytes.
unfoldable pub asks_of : List ℕ → List Ask
asks_of text = asks_within (length text) text
