use Rattle.std.proofs.Common.{◌≡◌, false, take}
use Rattle.command_lines.specs.TextLines.{has_lf}
use Rattle.command_lines.proofs.commands.line_feed_at.Given as goal

abbrev pub invariant-loop-i : goal.invariant-loop-i
invariant-loop-i l = has_lf (take l.i l.bytes) ≡ false
