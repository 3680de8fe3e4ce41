-- The lines of the queues so far were appended.
use Rattle.std.proofs.Common.{◌≡◌, ◌++◌, take}
use Rattle.std.specs.FinMap as finite
use Rattle.command_lines.specs.Replies.{queues_lines}
use Rattle.spool_engine.proofs.answers.append_queues.Given as goal

abbrev pub invariant-loop-row : goal.invariant-loop-row
invariant-loop-row l = l.text.items ≡ l.initial.text.items ++ queues_lines (finite.values l.table.state.jobs) (take l.row-index l.rows)
