-- Only gone slots at the front are deleted. Nothing is allocated.
use Rattle.std.proofs.Common.{◌≡◌}
use Rattle.std.specs.VecDeque.{deque_len, deque_capacity}
use Rattle.queue_sched.proofs.SlotLists.{IsTrimmed}
use Rattle.queue_sched.proofs.slots.trim.Given as goal

abbrev pub invariant-loop-slot : goal.invariant-loop-slot
invariant-loop-slot l = IsTrimmed l.initial.slots.items l.slots.items × (deque_capacity l.slots ≡ deque_capacity l.initial.slots)

abbrev pub decreases-loop-slot : goal.decreases-loop-slot
decreases-loop-slot l = deque_len l.slots
