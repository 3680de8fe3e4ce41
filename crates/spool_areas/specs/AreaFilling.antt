-- The state while the other area is being filled.
use Rattle.std.specs.Prelude.{◌≡◌, ◌≢◌, ℕ, ◌+◌, ◌-◌, ◌<◌, ◌≤◌, ◌^◌, List, ◌++◌, Some, IsSome, length, min, slice_index_or}
use Rattle.spool_disk.specs.Disk.{DiskView, SameOutside, Tells, IsSynced, LeavesOnly, ChangesOnly}
use Rattle.gate_journal.specs.Entries.{open_gate, AreShort, HasEntries, records}
use Rattle.spool_areas.specs.Header.{half, least_area, header_len}
use Rattle.spool_areas.specs.Checkpoint.{area_len, other_base, HasHeader, IsClosing, Stands}
use Rattle.spool_areas.specs.Current.{Current}

-- A change over from one area to the other: the disk at its start, the areas' length, the bases of the current area and
-- the other one, their epochs, and the version and the payloads of the current area.
pub record Change (D : Type 0) : Type 0 where
  pub start : D
  pub len : ℕ
  pub base : ℕ
  pub other : ℕ
  pub epoch : ℕ
  pub new_epoch : ℕ
  pub version : ℕ
  pub payloads : List (List ℕ)

abbrev pub change_of : {D : Type 0} → D → ℕ → ℕ → ℕ → ℕ → ℕ → ℕ → List (List ℕ) → Change D
change_of start len base other epoch new_epoch version payloads =
    record { start = start; len = len; base = base; other = other; epoch = epoch; new_epoch = new_epoch; version = version; payloads = payloads }

-- The change over that begins now.
abbrev pub change_at : {D : Type 0} → Current D → List (List ℕ) → Change D
change_at a payloads = change_of a.disk (area_len a) a.base (other_base a) a.epoch (a.epoch + 1) a.version payloads

-- At its start every image has the old payloads, and the new epoch is above the old one.
pub record CanChange {D : Type 0} (v : DiskView D) (x : Change D) : Type 0 where
  pub stands : Stands v x.start x.len x.base x.other x.epoch x.version x.payloads
  pub is_half : x.len ≡ half (v.size x.start)
  pub least : least_area ≤ x.len
  pub newer : x.epoch < x.new_epoch
  pub fits : x.new_epoch < 2 ^ 64

-- The bytes that the disk reports have these entries and no others, with their closed gate at `place`. Its images may
-- have others.
pub record TellsEntries {D : Type 0} (v : DiskView D) (disk : D) (base place : ℕ) (payloads : List (List ℕ)) : Type 0 where
  pub tells : IsSome (v.bytes disk)
  pub each : (r : List ℕ) → v.bytes disk ≡ Some r → HasEntries base payloads r
  pub gate_at : place ≡ base + length (records payloads)

-- At some moment the header of the other area was closed and nothing was unsynced. Since then only bytes of that area
-- after that gate have changed, and they need not be synced. The bytes that the disk reports have the new header there,
-- and the records of these rows, with their closed gate at `gate`.
pub record HasWritten {D : Type 0} (v : DiskView D) (x : Change D) (now : D) (gate : ℕ) (rows : List (List ℕ)) : Type 0 where
  pub can : CanChange v x
  pub closed : D
  pub run : LeavesOnly v x.start closed (IsClosing v x.start x.other)
  pub stays : Tells (SameOutside x.other 1) (v.bytes x.start) (v.bytes closed)
  pub shut : (r : List ℕ) → v.bytes closed ≡ Some r → slice_index_or r x.other 0 ≢ open_gate
  pub synced : IsSynced v closed
  pub fill : ChangesOnly v closed now (x.other + 1) (x.len - 1)
  pub header : (r : List ℕ) → v.bytes now ≡ Some r → HasHeader x.other x.new_epoch r
  pub entries : TellsEntries v now (x.other + header_len) gate rows

-- The first of these rows are written. The records of the others are in a block that is not written yet.
pub record Fills {D : Type 0} (v : DiskView D) (x : Change D) (now : D) (gate : ℕ) (block : List ℕ) (rows : List (List ℕ)) : Type 0 where
  pub first : List (List ℕ)
  pub others : List (List ℕ)
  pub rows_are : rows ≡ first ++ others
  pub short : AreShort others
  pub block_is : block ≡ records others
  pub written : HasWritten v x now gate first

-- The length of a block from which it is written.
abbrev pub block_len : ℕ
block_len = 65536

-- The number of bytes of the records of these payloads, or the greatest number if they have more.
abbrev pub sum_of : List (List ℕ) → ℕ
sum_of payloads = min (length (records payloads)) 18446744073709551615
