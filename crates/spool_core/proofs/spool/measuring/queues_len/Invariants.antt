-- The records of the first queues are in the sum.
use Rattle.std.proofs.Common.{◌≤◌, take, map, vec_capacity}
use Rattle.spool_types.specs.declared.listing.Row.TheVariants.{Queue}
use Rattle.spool_core.specs.Measuring.{IsSumMore}
use Rattle.spool_core.proofs.spool.measuring.queues_len.Given as goal

abbrev pub invariant-loop-queue : goal.invariant-loop-queue
invariant-loop-queue l = record {
  sum : IsSumMore (map (λ q. Queue q) (take l.queue-index l.fn.queues)) l.fn.before l.sum;
  spare : vec_capacity l.fn.block ≤ vec_capacity l.block;
}
