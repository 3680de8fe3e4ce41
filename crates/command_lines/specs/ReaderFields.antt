-- The meaning of the fields of a reader of commands. No caller needs this.
use Rattle.std.specs.Prelude.{◌≡◌, ◌≤◌, ◌-◌, false, length, take, drop}
use Rattle.spool_types.specs.Limits.{longest_send}
use Rattle.command_lines.specs.TextLines.{has_lf}
use Rattle.command_lines.specs.PendingCommands.{Pending}
use Rattle.command_lines.specs.ReaderSteps.{payload_size}
use Rattle.command_lines.specs.declared.commands.Commands.TheInside.{Inside}

abbrev pub pending_of : Inside → Pending
pending_of a = record { mode = a.mode; held = drop a.start a.bytes.items }

-- The bytes from `start` to `clean` were searched, and contain no line feed.
pub record IsScanned (a : Inside) : Type 0 where
  pub in_order : a.start ≤ a.clean
  pub in_range : a.clean ≤ length a.bytes.items
  pub clean : has_lf (take (a.clean - a.start) (drop a.start a.bytes.items)) ≡ false
  pub small : payload_size a.mode ≤ longest_send
