-- The meaning of the fields of an index.
use Rattle.std.specs.Prelude.{◌≡◌, ℕ, ◌<◌, ◌≤◌, List, length, Option, None, Some}
use Rattle.std.specs.List.{Contains, filter}
use Rattle.queue_sched.specs.WaitingIndex.{Waits, InOrder, is_startable}
use Rattle.queue_sched.specs.declared.entry.Entry.{Entry}
use Rattle.queue_sched.specs.declared.index.Index.TheInside.{Inside}

abbrev pub waits_of : Inside → Waits
waits_of a = record {
  items = a.entries.items;
  moment = a.moment;
  room = a.room;
}

-- The moment is before this one, if there is one.
abbrev pub IsBefore : ℕ → Option ℕ → Type 0
IsBefore m None = Unit {0}
IsBefore m (Some due) = m < due

-- Until this moment, if there is one, the same entries may be started as now.
abbrev pub IsSameUntil : List Entry → ℕ → Option ℕ → Type 0
IsSameUntil items now due = (e : Entry) → Contains items e → (m : ℕ) → now ≤ m → IsBefore m due → is_startable m e ≡ is_startable now e

-- The entries are in order, the ready entries are exactly the startable ones, and each list has the room.
pub record IsInStep (a : Inside) : Type 0 where
  pub order : InOrder a.entries.items
  pub ready : a.ready.items ≡ filter (is_startable a.moment) a.entries.items
  pub fits : length a.entries.items ≤ a.room
  pub room_of_entries : a.room ≤ a.entries.room
  pub room_of_ready : a.room ≤ a.ready.room
  pub due : IsSameUntil a.entries.items a.moment a.due
