-- The startable entries so far, and those of the remaining slots. Nothing is allocated.
use Rattle.std.proofs.Common.{◌≡◌, ◌+◌, ◌≤◌, ◌++◌, ◌&&◌, length}
use Rattle.std.specs.List.{filter}
use Rattle.std.specs.VecDeque.{deque_len, deque_capacity}
use Rattle.std.specs.VecDeque.Iter.{deque_iter_rest}
use Rattle.queue_sched.specs.WaitingIndex.{is_startable}
use Rattle.queue_sched.specs.OrderSlots.{is_there, items_of}
use Rattle.queue_sched.proofs.slots.pick_ready.Given as goal

abbrev pub invariant-loop-slot : goal.invariant-loop-slot
invariant-loop-slot l =
    (l.slots.items ++ filter (λ s. is_there s && is_startable l.now s.entry) (deque_iter_rest l.slot-iterator) ≡ filter (λ s. is_there s && is_startable l.now s.entry) l.all.items)
    × (deque_len l.slots + length (items_of (deque_iter_rest l.slot-iterator)) ≤ length (items_of l.all.items))
    × (deque_capacity l.slots ≡ deque_capacity l.fn.slots)
