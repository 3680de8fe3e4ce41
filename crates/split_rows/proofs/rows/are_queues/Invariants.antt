-- The first rows of the part are those of the queues so far that belong to the half.
use Rattle.std.proofs.Common.{◌≡◌, ◌≤◌, length, take}
use Rattle.std.specs.List.{filter}
use Rattle.spool_types.specs.declared.rows.QueueRow.{QueueRow}
use Rattle.split_rows.specs.Half.{takes}
use Rattle.split_rows.proofs.rows.are_queues.Given as goal

abbrev pub invariant-loop-queue : goal.invariant-loop-queue
invariant-loop-queue l = record {
  within : l.at ≤ length l.part;
  same : take l.at l.part ≡ filter (λ (q : QueueRow). takes l.half.named l.half.names.now q.name) (take l.queue-index l.whole);
}
