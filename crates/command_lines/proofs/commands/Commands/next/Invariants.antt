use Rattle.std.proofs.Common.{◌≤◌, []}
use Rattle.command_lines.specs.PendingCommands.{Leads, weight}
use Rattle.command_lines.proofs.commands.Commands.next.Given as goal

abbrev pub invariant-loop-command : goal.invariant-loop-command
invariant-loop-command l = record { leads : Leads l.initial.self [] l.self; less : weight l.self ≤ weight l.initial.self }

abbrev pub decreases-loop-command : goal.decreases-loop-command
decreases-loop-command l = weight l.self
