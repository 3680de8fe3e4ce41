-- The meaning of the fields of a list of entries in order.
use Rattle.std.specs.Prelude.{◌≡◌, ◌*◌, ◌≤◌, length}
use Rattle.std.specs.VecDeque.{deque_capacity}
use Rattle.queue_sched.specs.OrderSlots.{items_of, InSlotOrder, IsFirstThere}
use Rattle.queue_sched.specs.OrderedEntries.{OrderedEntries}
use Rattle.queue_sched.specs.declared.waiting_entries.WaitingEntries.TheInside.{Inside}

abbrev pub turned_of : Inside → OrderedEntries
turned_of a = record { items = items_of a.slots.items; room = deque_capacity a.slots }

-- The slots are in order, `len` is the number of slots that are not gone, at most half of the slots are gone, and the
-- first slot is not gone.
pub record IsKept (a : Inside) : Type 0 where
  pub order : InSlotOrder a.slots.items
  pub count : length (items_of a.slots.items) ≡ a.len
  pub few : length a.slots.items ≤ 2 * a.len
  pub first : IsFirstThere a.slots.items
