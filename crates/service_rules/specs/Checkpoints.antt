-- When the service makes a checkpoint, and the cost of its checkpoints.
use Rattle.std.specs.Prelude.{ℕ, ◌+◌, ◌-◌, ◌*◌, ◌≤◌, Bool, true, ◌&&◌, ◌||◌, nat_lt, nat_le, List, [], ◌∷◌, Option, None, Some, IsTrue}
use Rattle.service_rules.specs.declared.checkpoints.Room.{Room}
use Rattle.service_rules.specs.declared.checkpoints.Checkpoint.{Checkpoint}
use Rattle.service_rules.specs.Bounds.{checkpoint_parts}

-- The room of a journal with this many bytes free. Its size is the room that the last checkpoint left, before the first one the whole area.
abbrev pub room_in : ℕ → Option ℕ → ℕ → Room
room_in area None free = record { used = area - free; size = area }
room_in area (Some left) free = record { used = left - free; size = left }

-- Less than this percentage of the journal is free.
abbrev pub is_short : Room → ℕ → Bool
is_short room percent = nat_lt ((room.size - room.used) * 100) (room.size * percent)

-- How long a checkpoint took.
abbrev pub took : Checkpoint → ℕ
took c = c.ended - c.began

-- The time since the last checkpoint is at least `checkpoint_parts` times as long as the checkpoint.
abbrev pub is_paid_for : Option Checkpoint → ℕ → Bool
is_paid_for None now = true
is_paid_for (Some c) now = nat_le (checkpoint_parts * took c) (now - c.ended)

-- More is used than a checkpoint left, if it was made.
abbrev pub is_above : Option ℕ → ℕ → Bool
is_above None used = true
is_above (Some left) used = nat_lt left used

-- Something was written after the last checkpoint, or it was not made: so another one may free something.
abbrev pub may_free : Option Checkpoint → ℕ → Bool
may_free None used = true
may_free (Some c) used = is_above c.left used

-- The journal is short, or an event was refused as Full; a checkpoint may free something; and the last one is paid for.
abbrev pub is_wanted : Room → ℕ → Bool → Option Checkpoint → ℕ → Bool
is_wanted room percent was_full last now = (was_full || is_short room percent) && (may_free last room.used && is_paid_for last now)

-- Checkpoints in order, each begun when the previous one was paid for, up to a moment when the last one is.
abbrev pub ArePaidFor : List Checkpoint → ℕ → Type 0
ArePaidFor [] now = Unit {0}
ArePaidFor (c ∷ []) now = (c.began ≤ c.ended) × (c.ended ≤ now) × IsTrue (is_paid_for (Some c) now)
ArePaidFor (c ∷ (d ∷ later)) now = (c.began ≤ c.ended) × (c.ended ≤ d.began) × IsTrue (is_paid_for (Some c) d.began) × ArePaidFor (d ∷ later) now

-- The time that all of them took.
abbrev pub all_took : List Checkpoint → ℕ
all_took [] = 0
all_took (c ∷ later) = took c + all_took later
