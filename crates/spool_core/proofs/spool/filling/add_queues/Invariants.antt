-- The rows of the first queues are added.
use Rattle.std.proofs.Common.{◌≤◌, take, map, vec_capacity, Ok}
use Rattle.spool_types.specs.declared.listing.Row.TheVariants.{Queue}
use Rattle.listing_rows.specs.RowFilling.{filling_at, IsFillingOn, AddsRows}
use Rattle.spool_core.proofs.spool.filling.add_queues.Given as goal

abbrev pub invariant-loop-queue : goal.invariant-loop-queue
invariant-loop-queue g l = record {
  on : IsFillingOn {T = Unit {0}} g.D.Disk.device (filling_at l.fn.areas l.fn.filler) (filling_at l.areas l.filler) (Ok tt);
  adds : AddsRows g.D.Disk.device (map (λ q. Queue q) (take l.queue-index l.fn.queues)) (filling_at l.fn.areas l.fn.filler) (filling_at l.areas l.filler);
  spare : vec_capacity l.fn.filler.block ≤ vec_capacity l.filler.block;
}
