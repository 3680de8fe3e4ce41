-- The queues of the rows so far.
use Rattle.std.proofs.Common.{◌≡◌, take}
use Rattle.std.specs.Prelude.{filter_map}
use Rattle.front_texts.specs.QueueRows.{queue_row}
use Rattle.spool_front.proofs.client.queues_in.Given as goal

abbrev pub invariant-loop-row : goal.invariant-loop-row
invariant-loop-row l = l.queues.items ≡ filter_map (λ row. queue_row row.items) (take l.row-index l.rows)
