-- The contents of the slots of a list of entries in order.
use Rattle.std.specs.Prelude.{◌≡◌, Bool, false, not, List, [], ◌∷◌, map, IsTrue}
use Rattle.std.specs.List.{AllPairs, filter}
use Rattle.queue_sched.specs.WaitingIndex.{goes_before}
use Rattle.queue_sched.specs.declared.entry.Entry.{Entry}
use Rattle.queue_sched.specs.declared.slots.Slot.{Slot}

-- The entry was not removed.
abbrev pub is_there : Slot → Bool
is_there s = not s.gone

-- The entries that were not removed.
abbrev pub items_of : List Slot → List Entry
items_of slots = map (λ s. s.entry) (filter is_there slots)

-- The slot of an entry that was not removed.
abbrev pub there_of : Entry → Slot
there_of e = record { entry = e; gone = false }

-- Each slot comes before all later ones, including gone slots.
abbrev pub InSlotOrder : List Slot → Type 0
InSlotOrder slots = AllPairs (λ s t. IsTrue (goes_before s.entry t.entry)) slots

-- The first slot, if any, is not gone.
abbrev pub IsFirstThere : List Slot → Type 0
IsFirstThere [] = Unit {0}
IsFirstThere (s ∷ slots) = s.gone ≡ false
