-- No number is skipped.
use Rattle.std.proofs.Common.{◌≡◌, length}
use Rattle.std.specs.VecDeque.Iter.{deque_iter_rest}
use Rattle.queue_sched.specs.Jobs.{numbers_left}
use Rattle.queue_sched.proofs.jobs.JobsIterator.next.Given as goal

abbrev pub invariant-loop-slot : goal.invariant-loop-slot
invariant-loop-slot l = numbers_left l.self-inside ≡ numbers_left l.initial.self-inside

abbrev pub decreases-loop-slot : goal.decreases-loop-slot
decreases-loop-slot l = length (deque_iter_rest l.self-inside.slots)
