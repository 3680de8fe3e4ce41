-- The slots of the visited entries. Nothing is allocated.
use Rattle.std.proofs.Common.{◌≡◌, map, take}
use Rattle.std.specs.VecDeque.{deque_len, deque_capacity}
use Rattle.queue_sched.specs.OrderSlots.{there_of}
use Rattle.queue_sched.proofs.slots.fill_slots.Given as goal

abbrev pub invariant-loop-entry : goal.invariant-loop-entry
invariant-loop-entry l =
    (l.slots.items ≡ map there_of (take l.entry-index l.entries))
    × (deque_len l.slots ≡ l.entry-index)
    × (deque_capacity l.slots ≡ deque_capacity l.fn.slots)
