-- The remaining requests, given the text that follows.
use Rattle.std.specs.Prelude.{◌≡◌, ◌⊎◌, ℕ, ◌-◌, ◌<◌, ◌≤◌, Bool, true, false, not, List, [], ◌∷◌, ◌++◌, length, map}
use Rattle.command_lines.specs.TextLines.{after_line, has_lf}
use Rattle.command_lines.specs.PendingCommands.{Pending, IsPartial, to_come}
use Rattle.command_lines.specs.Text.{commands_of, after_bytes, is_lf_at, sent}
use Rattle.command_lines.specs.Waits.{wanted_of}
use Rattle.command_lines.specs.declared.command.Command.{Command}
use Rattle.command_lines.specs.declared.commands.Wanted.{Wanted}
use Rattle.command_lines.specs.declared.commands.Wanted.TheVariants as wants
use Rattle.client_reader.specs.Asks.{asks_of, after_send}
use Rattle.client_reader.specs.declared.ask.Ask.{Ask}
use Rattle.client_reader.specs.declared.ask.Ask.TheVariants as asking
use Rattle.client_reader.specs.declared.ask.Next.{Next}
use Rattle.client_reader.specs.declared.ask.Next.TheVariants as nexts
use Rattle.client_reader.specs.declared.reader.Reader.{Reader}

-- The position in the text of the reader of commands: at the beginning of a line, in the rest of one, or in a send of a number of bytes to
-- a job. Of a send it has the bytes that have arrived.
pub data Where : Type 0 where
  at_line : Where
  in_line : Where
  in_send : ℕ → ℕ → List ℕ → Where

-- The requests of the text that follows.
abbrev pub asked_from : Where → List ℕ → List Ask
asked_from at_line text = asks_of text
asked_from in_line text = asks_of (after_line text)
asked_from (in_send job n held) text = after_send asks_of job n (held ++ text)

-- Its commands, if no line is a word of the service.
abbrev pub heard_from : Where → List ℕ → List Command
heard_from at_line text = commands_of text
heard_from in_line text = commands_of (after_line text)
heard_from (in_send job n held) text = after_bytes commands_of (sent job n) n (held ++ text)

-- Whether the reader of commands got the front of a line last.
abbrev pub IsWithin : Where → Bool → Type 0
IsWithin at_line within = within ≡ false
IsWithin in_line within = within ≡ true
IsWithin (in_send job n held) within = length held ≤ n

-- Bytes that do not end a line.
abbrev pub ends_within : List ℕ → Bool
ends_within xs = not (is_lf_at (length xs - 1) xs)

-- The reader of commands will return these commands, and then those of the text that follows.
pub record IsAt (p : Pending) (within : Bool) (given : List Command) (position : Where) : Type 0 where
  pub commands : (more : List ℕ) → to_come p more ≡ given ++ heard_from position more
  pub fits : IsWithin position within

-- These are the remaining requests, as a function of the text that follows.
pub record Awaits (r : Reader) (asks : List ℕ → List Ask) : Type 0 where
  pub given : List Command
  pub position : Where
  pub at : IsAt r.commands r.within given position
  pub asked : (more : List ℕ) → asks more ≡ map asking.Command given ++ asked_from position (r.text.items ++ more)

-- The bytes of a send are missing.
abbrev pub wants_bytes : Wanted → Bool
wants_bytes (wants.Bytes count) = true
wants_bytes wanted = false

-- It waits for the bytes of a send.
abbrev pub is_in_send : Reader → Bool
is_in_send r = wants_bytes (wanted_of r.commands)

-- The result of a step, and the requests that remain.
abbrev pub Gives : (List ℕ → List Ask) → Next → Reader → Type 0
Gives asks (nexts.Asked ask) new = (others : List ℕ → List Ask) × ((more : List ℕ) → asks more ≡ ask ∷ others more) × Awaits new others
Gives asks nexts.Again new = Awaits new asks
Gives asks nexts.Text new = Awaits new asks

-- The rest of the text is the front of a line that may still fit.
pub record IsFrontOnly (r : Reader) : Type 0 where
  pub wanted : (wanted_of r.commands ≡ wants.Line) ⊎ (wanted_of r.commands ≡ wants.Rest)
  pub begins : r.within ≡ false
  pub unended : has_lf r.text.items ≡ false
  pub fits : length r.text.items ≤ 4096

-- No request can be returned without more text: no command is complete, and the rest of the text is empty or the front of a line.
pub record WantsText (r : Reader) : Type 0 where
  pub partial : IsPartial r.commands.mode r.commands.held
  pub left : (r.text.items ≡ []) ⊎ IsFrontOnly r

-- Each step makes progress: if it returns no request, less of the text is left than before, or more of it is needed.
abbrev pub ComesFurther : ℕ → Next → Reader → Type 0
ComesFurther before (nexts.Asked ask) new = length new.text.items ≤ before
ComesFurther before nexts.Again new = length new.text.items < before
ComesFurther before nexts.Text new = WantsText new
