-- The names of the words so far.
use Rattle.std.proofs.Common.{◌≡◌, map, take}
use Rattle.spool_admin.proofs.names.names_of.Given as goal

abbrev pub invariant-loop-queue : goal.invariant-loop-queue
invariant-loop-queue l = l.names.items ≡ map (λ queue. queue.now) (take l.queue-index l.queues)
