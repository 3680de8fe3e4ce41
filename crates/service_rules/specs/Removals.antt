-- Jobs that are canceled and purged one after the other, over the numbers of a journal.
use Rattle.std.specs.Prelude.{ℕ, ◌+◌, ◌-◌, ◌*◌, ◌≤◌, cond, nat_le, List, [], ◌∷◌, Bool}
use Rattle.service_rules.specs.Reserve.{reserve_of, row_growth}
use Rattle.service_rules.specs.declared.reserve.Journal.{Journal}

-- The size of an area, the bytes used in it, the bytes that a checkpoint would use (`live`), and the number of jobs. `others` are the bytes
-- by which events that create no job made the checkpoint longer than their records, or used the reserve.
pub record Filled : Type 0 where
  pub size : ℕ
  pub used : ℕ
  pub live : ℕ
  pub jobs : ℕ
  pub others : ℕ

abbrev pub journal_of : Filled → Journal
journal_of f = record { area = f.size; free = f.size - f.used; jobs = f.jobs }

-- The records fit, and a checkpoint is longer than they are by its rows alone.
pub record IsFilled (f : Filled) : Type 0 where
  pub within : f.used ≤ f.size
  pub rows : f.live ≤ f.used + f.jobs * row_growth + f.others

-- A checkpoint leaves the reserve free, except for the bytes of other events.
pub record KeepsReserve (f : Filled) : Type 0 where
  pub is : IsFilled f
  pub kept : f.live + reserve_of f.size ≤ f.size + f.others

-- ## Events

-- An event that takes room: a record, the bytes that it adds to a checkpoint, and 1 if it creates a job.
abbrev pub with_taken : ℕ → ℕ → ℕ → Filled → Filled
with_taken bytes added new f = record f { used = f.used + bytes; live = f.live + added; jobs = f.jobs + new }

-- Any other event.
abbrev pub with_other : ℕ → ℕ → Filled → Filled
with_other bytes added f = record f { used = f.used + bytes; live = f.live + added; others = f.others + added }

abbrev pub checkpointed : Filled → Filled
checkpointed f = record f { used = f.live }

-- A checkpoint is made if a record of this length does not fit.
abbrev pub with_room : ℕ → Filled → Filled
with_room bytes f = cond (nat_le (f.used + bytes) f.size) f (checkpointed f)

abbrev pub Fits : ℕ → Filled → Type 0
Fits bytes f = f.used + bytes ≤ f.size

-- ## A job is removed

-- The bytes of the job in a checkpoint, its row and its document; and the records of its cancel and of its purge.
pub record Removal : Type 0 where
  pub rows : ℕ
  pub cancel : ℕ
  pub purge : ℕ

-- No record that frees room is longer, with the gate after it.
abbrev pub freeing_cost : ℕ
freeing_cost = 32

pub record IsShort (r : Removal) : Type 0 where
  pub cancel : r.cancel ≤ freeing_cost
  pub purge : r.purge ≤ freeing_cost

abbrev pub with_cancel : Removal → Filled → Filled
with_cancel r f = with_other r.cancel 0 (with_room r.cancel f)

abbrev pub purged : ℕ → Filled → Filled
purged rows f = record f { live = f.live - rows; jobs = f.jobs - 1 }

abbrev pub removed : Removal → Filled → Filled
removed r f = purged r.rows (with_other r.purge 0 (with_room r.purge (with_cancel r f)))

abbrev pub removed_all : List Removal → Filled → Filled
removed_all [] f = f
removed_all (r ∷ rs) f = removed_all rs (removed r f)

-- Both records fit.
pub record IsRemovable (r : Removal) (f : Filled) : Type 0 where
  pub cancel : Fits r.cancel (with_room r.cancel f)
  pub purge : Fits r.purge (with_room r.purge (with_cancel r f))

abbrev pub AreRemovable : List Removal → Filled → Type 0
AreRemovable [] f = Unit {0}
AreRemovable (r ∷ rs) f = IsRemovable r f × AreRemovable rs (removed r f)

abbrev pub AreShort : List Removal → Type 0
AreShort [] = Unit {0}
AreShort (r ∷ rs) = IsShort r × AreShort rs

-- The bytes of all of them in a checkpoint.
abbrev pub rows_of : List Removal → ℕ
rows_of [] = 0
rows_of (r ∷ rs) = r.rows + rows_of rs
