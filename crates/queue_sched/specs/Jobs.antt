-- The remaining items of an iterator over the numbers of waiting jobs.
use Rattle.std.specs.Prelude.{ℕ, List, map}
use Rattle.std.specs.VecDeque.Iter.{deque_iter_rest}
use Rattle.queue_sched.specs.OrderSlots.{items_of}
use Rattle.queue_sched.specs.declared.jobs.Jobs.TheInside.{Inside}

abbrev pub numbers_left : Inside → List ℕ
numbers_left a = map (λ e. e.id) (items_of (deque_iter_rest a.slots))
