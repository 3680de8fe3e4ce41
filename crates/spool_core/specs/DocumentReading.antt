-- The result of reading a document, and its effect on the spool.
use Rattle.std.specs.Prelude.{◌≡◌, ◌↔◌, ◌⊎◌, ℕ, false, List, length, take, drop, ⊤, IsTrue, Some, Result, Ok, Err}
use Rattle.spool_disk.specs.Disk.{DiskView, Blames, ChangesNothing}
use Rattle.job_table.specs.Over.{is_over}
use Rattle.spool_core.specs.Image.{HasDocument}
use Rattle.spool_core.specs.OpenSpools.{OpenSpool, len_at, shown_bytes}
use Rattle.spool_core.specs.declared.reading.Unread.{Unread}
use Rattle.spool_core.specs.declared.reading.Unread.TheVariants.{Memory, Disk}

-- The effect of a read on the spool, if `Broken` states whether the device failed.
pub record IsReading {D : Type 0} (device : DiskView D) (old : OpenSpool D) (Broken : Type 0) (new : OpenSpool D) : Type 0 where
  pub state : new.state ≡ old.state
  pub room : new.room ≡ old.room
  pub epoch : new.epoch ≡ old.epoch
  pub held : new.held ≡ old.held
  pub disk : ChangesNothing device old.disk new.disk
  pub blames : Blames (device.failures old.disk) (device.failures new.disk) Broken
  pub dies : IsTrue new.dead ↔ (IsTrue old.dead ⊎ Broken)

-- A job's document. It is as long as the table states. If the disk shows its bytes, it is the document that they contain for the
-- job, with the staged events, unless the job has ended.
pub record IsDocument {D : Type 0} (device : DiskView D) (spool : OpenSpool D) (j : ℕ) (document : List ℕ) : Type 0 where
  pub long : length document ≡ len_at spool.state j
  pub own : is_over spool.state j ≡ false → (bytes kept : List ℕ) → shown_bytes device spool ≡ Some bytes → HasDocument j kept bytes → document ≡ kept

-- `count` bytes of a job's document, from offset `at` on.
pub record IsPart {D : Type 0} (device : DiskView D) (spool : OpenSpool D) (j at count : ℕ) (part : List ℕ) : Type 0 where
  pub document : List ℕ
  pub is : IsDocument device spool j document
  pub part_is : part ≡ take count (drop at document)

-- Memory ran out, or the device failed.
abbrev pub IsUnreadFor : {D : Type 0} → DiskView D → OpenSpool D → Unread → OpenSpool D → Type 0
IsUnreadFor device old Memory new = new ≡ old
IsUnreadFor device old Disk new = IsReading device old ⊤ new

-- The document of the job was read, or it was not.
abbrev pub IsDocumentRead : {D : Type 0} → DiskView D → OpenSpool D → ℕ → Result (List ℕ) Unread → OpenSpool D → Type 0
IsDocumentRead device old j (Ok document) new = IsReading device old ⊥ new × IsDocument device old j document
IsDocumentRead device old j (Err why) new = IsUnreadFor device old why new

-- Its first `count` bytes were read, or they were not.
abbrev pub IsFrontRead : {D : Type 0} → DiskView D → OpenSpool D → ℕ → ℕ → Result (List ℕ) Unread → OpenSpool D → Type 0
IsFrontRead device old j count (Ok front) new = IsReading device old ⊥ new × IsPart device old j 0 count front
IsFrontRead device old j count (Err why) new = IsUnreadFor device old why new
