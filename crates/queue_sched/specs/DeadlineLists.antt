-- The meaning of the fields of the deadlines.
use Rattle.std.specs.Prelude.{◌≤◌, length}
use Rattle.std.specs.VecDeque.{deque_capacity}
use Rattle.queue_sched.specs.Deadlines.{Limits, InTurn}
use Rattle.queue_sched.specs.declared.deadlines.Deadlines.TheInside.{Inside}

abbrev pub limits_of : Inside → Limits
limits_of a = record { items = a.items.items; room = a.room }

-- The deadlines are in order, and the list has the room.
pub record IsKept (a : Inside) : Type 0 where
  pub order : InTurn a.items.items
  pub fits : length a.items.items ≤ a.room
  pub room_of_items : a.room ≤ deque_capacity a.items
