-- The lines of the queues so far were appended.
use Rattle.std.proofs.Common.{◌≡◌, ◌++◌, take}
use Rattle.queue_sayings.specs.QueueSayings.{shown_queue_lines}
use Rattle.queue_sayings.proofs.lines.push_lines.Given as goal

abbrev pub invariant-loop-row : goal.invariant-loop-row
invariant-loop-row l = l.text.items ≡ l.initial.text.items ++ shown_queue_lines l.client l.table.state (take l.row-index l.rows)
