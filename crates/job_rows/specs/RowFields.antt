-- The meaning of the fields of the rows.
use Rattle.std.specs.Prelude.{◌≡◌, ◌+◌, ◌-◌, ◌≤◌, length, map, IsTrue, vec_len, vec_capacity}
use Rattle.std.specs.Ordering.{nat_cmp}
use Rattle.std.specs.FinMap as finite
use Rattle.job_rows.specs.NumberedRows.{Listed}
use Rattle.job_rows.specs.RowSlots.{slot_entry, held, numbers, gone_count, EndsHeld}
use Rattle.job_rows.specs.declared.rows.Rows.TheInside.{Inside}

abbrev pub listed : Inside → Listed
listed a = record { numbers = numbers a.slots.items; items = held a.slots.items; room = vec_capacity a.slots - vec_len a.slots }

-- The slots are in ascending order of number, and the last one has a row. `gone` is the number of gone slots, which are
-- at most half of all.
pub record IsKept (a : Inside) : Type 0 where
  pub order : IsTrue (finite.is_sorted nat_cmp (map slot_entry a.slots.items))
  pub last : EndsHeld a.slots.items
  pub count : a.gone ≡ gone_count a.slots.items
  pub half : a.gone + a.gone ≤ length a.slots.items
