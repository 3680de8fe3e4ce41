-- The contents of a reader of commands, and the commands that it will return, given the text that follows.
use Rattle.std.specs.Prelude.{◌≡◌, ℕ, ◌≤◌, ◌+◌, ◌*◌, false, List, [], ◌++◌, length}
use Rattle.spool_types.specs.Limits.{longest_send}
use Rattle.command_lines.specs.TextLines.{after_line, has_lf}
use Rattle.command_lines.specs.Text.{commands_of, after_bytes, sent}
use Rattle.command_lines.specs.declared.command.Command.{Command}
use Rattle.command_lines.specs.declared.command.Command.TheVariants.{OversizedSend}
use Rattle.command_lines.specs.declared.command.Mode.{Mode}
use Rattle.command_lines.specs.declared.command.Mode.TheVariants.{Line, Skip, Payload, Counting}

-- The buffered bytes and their kind: the beginning of a line, a rest to be dropped, the bytes of a send, or bytes to be skipped.
pub record Pending : Type 0 where
  pub mode : Mode
  pub held : List ℕ

-- Before any text.
abbrev pub nothing_read : Pending
nothing_read = record { mode = Line; held = [] }

-- The commands of a text that begins in this mode.
abbrev pub commands_from : Mode → List ℕ → List Command
commands_from Line text = commands_of text
commands_from Skip text = commands_of (after_line text)
commands_from (Payload job n) text = after_bytes commands_of (sent job n) n text
commands_from (Counting n) text = after_bytes commands_of (λ _. OversizedSend) n text

-- The commands that are still to come, if this text follows.
abbrev pub to_come : Pending → List ℕ → List Command
to_come p more = commands_from p.mode (p.held ++ more)

-- These commands are returned between the two states, for any text that follows.
abbrev pub Leads : Pending → List Command → Pending → Type 0
Leads old cs new = (more : List ℕ) → to_come old more ≡ cs ++ to_come new more

-- No whole command is buffered, and at most the beginning of one line or the bytes of one send.
abbrev pub IsPartial : Mode → List ℕ → Type 0
IsPartial Line held = (has_lf held ≡ false) × (length held ≤ 4096)
IsPartial Skip held = held ≡ []
IsPartial (Payload job n) held = (length held ≤ n) × (n ≤ longest_send)
IsPartial (Counting n) held = held ≡ []

-- 1 if the mode needs further bytes to end.
abbrev pub extra : Mode → ℕ
extra Line = 0
extra Skip = 1
extra (Payload job n) = 1
extra (Counting n) = 1

-- Decreases with each command, so a caller's loop ends.
abbrev pub weight : Pending → ℕ
weight p = 2 * length p.held + extra p.mode
