-- The visited entries may be started until the due moment exactly if they may be started now.
use Rattle.std.specs.VecDeque.Iter.{deque_iter_rest}
use Rattle.queue_sched.specs.OrderSlots.{items_of}
use Rattle.queue_sched.proofs.Due.{IsSameSoFar}
use Rattle.queue_sched.proofs.slots.due_of.Given as goal

abbrev pub invariant-loop-slot : goal.invariant-loop-slot
invariant-loop-slot l = IsSameSoFar (items_of l.slots.items) (items_of (deque_iter_rest l.slot-iterator)) l.now l.due
