-- The contents of slots. No clause of another crate uses this module.
use Rattle.std.specs.Prelude.{ℕ, ◌+◌, ◌-◌, ◌<◌, ◌≤◌, List, [], ◌∷◌, length, map, Option, Some, None, IsSome, slice_index_or}
use Rattle.spool_types.specs.declared.rows.JobRow.{JobRow}
use Rattle.job_rows.specs.declared.slot.Slot.{Slot}
use Rattle.job_rows.specs.declared.slot.Slot.TheVariants.{Held, Gone}

abbrev pub number_of : Slot → ℕ
number_of (Held n r) = n
number_of (Gone n) = n

abbrev pub slot_entry : Slot → ℕ × Slot
slot_entry s = (number_of s, s)

abbrev pub row_of : Slot → Option JobRow
row_of (Held n r) = Some r
row_of (Gone n) = None

-- The rows, in order.
abbrev pub held : List Slot → List JobRow
held [] = []
held (Held n r ∷ slots) = r ∷ held slots
held (Gone n ∷ slots) = held slots

-- The numbers of the rows.
abbrev pub numbers : List Slot → List ℕ
numbers [] = []
numbers (Held n r ∷ slots) = n ∷ numbers slots
numbers (Gone n ∷ slots) = numbers slots

abbrev pub first_number : List Slot → Option ℕ
first_number [] = None
first_number (Held n r ∷ slots) = Some n
first_number (Gone n ∷ slots) = first_number slots

abbrev pub gone_count : List Slot → ℕ
gone_count [] = 0
gone_count (Held n r ∷ slots) = gone_count slots
gone_count (Gone n ∷ slots) = gone_count slots + 1

-- The last slot, if any, has a row.
abbrev pub EndsHeld : List Slot → Type 0
EndsHeld slots = 0 < length slots → IsSome (slice_index_or (map row_of slots) (length slots - 1) None)

-- The numbers before this position are at most the number, and those from it on are above it.
pub record IsParted (slots : List Slot) (number at : ℕ) : Type 0 where
  pub in_range : at ≤ length slots
  pub before : (j : ℕ) (d : Slot) → j < at → number_of (slice_index_or slots j d) ≤ number
  pub behind : (j : ℕ) (d : Slot) → at ≤ j → j < length slots → number < number_of (slice_index_or slots j d)
