-- The input that a reader of commands waits for.
use Rattle.std.specs.Prelude.{ℕ, ◌+◌, ◌-◌, length}
use Rattle.command_lines.specs.PendingCommands.{Pending}
use Rattle.command_lines.specs.declared.command.Mode.{Mode}
use Rattle.command_lines.specs.declared.command.Mode.TheVariants.{Line, Skip, Payload, Counting}
use Rattle.command_lines.specs.declared.commands.Wanted.{Wanted}

-- A line, the rest of one, or the missing bytes of a send, including the line feed after them.
abbrev pub wanted_in : Mode → ℕ → Wanted
wanted_in Line held = Wanted.Line
wanted_in Skip held = Wanted.Rest
wanted_in (Payload job n) held = Wanted.Bytes (n + 1 - held)
wanted_in (Counting n) held = Wanted.Bytes (n + 1)

abbrev pub wanted_of : Pending → Wanted
wanted_of p = wanted_in p.mode (length p.held)
