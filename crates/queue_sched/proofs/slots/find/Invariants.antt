-- If the job is in the list, it is among the remaining entries.
use Rattle.std.specs.VecDeque.Iter.{deque_iter_rest}
use Rattle.queue_sched.specs.OrderSlots.{items_of}
use Rattle.queue_sched.proofs.SlotLists.{IsSought}
use Rattle.queue_sched.proofs.slots.find.Given as goal

abbrev pub invariant-loop-slot : goal.invariant-loop-slot
invariant-loop-slot l = IsSought (items_of l.slots.items) (items_of (deque_iter_rest l.slot-iterator)) l.id
