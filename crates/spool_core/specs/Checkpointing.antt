-- The effect of a checkpoint: it lists the spool's table in the other area.
use Rattle.std.specs.Prelude.{◌≡◌, ◌+◌, ◌-◌, ◌<◌, ◌≤◌, ℕ, Bool, true, false, List, length, map, replicate, IsTrue, Result, Ok, Err}
use Rattle.spool_types.specs.declared.listing.Row.{Row}
use Rattle.spool_types.specs.Limits.{longest_document}
use Rattle.spool_types.specs.State.{State, Job}
use Rattle.job_table.specs.Legal.{Fits}
use Rattle.spool_disk.specs.Disk.{DiskView}
use Rattle.job_table.specs.Listing.{listing, job_rows}
use Rattle.job_table.specs.TableVersions.{raised}
use Rattle.spool_types.specs.declared.version.Version.TheVariants.{Two}
use Rattle.event_codec.specs.RowSpelling.{row_spelling}
use Rattle.spool_areas.specs.Checkpoint.{has_room, last_epoch}
use Rattle.spool_areas.specs.Header.{half, header_len, header_at, epoch_of, version_of, newest_version, current_area}
use Rattle.spool_areas.specs.Payloads.{HasPayloads, gate_after}
use Rattle.spool_areas.specs.declared.fault.AreaFault.{AreaFault}
use Rattle.spool_areas.specs.declared.fault.AreaFault.TheVariants as areas
use Rattle.job_table.specs.DocumentLengths.{AreDocuments, document_len}
use Rattle.spool_core.specs.OpenSpools.{OpenSpool, len_at}
use Rattle.spool_core.specs.declared.spool.checkpoint_fault.CheckpointFault.{CheckpointFault}
use Rattle.spool_core.specs.declared.spool.checkpoint_fault.CheckpointFault.TheVariants.{Dead, EpochEnd, Memory, Full, Disk}

-- ## The contents of an area after a checkpoint

-- The payloads of the rows of the table's listing, with these documents, in the newest version.
abbrev pub listed_payloads : State → (ℕ → List ℕ) → List (List ℕ)
listed_payloads s documents = map (row_spelling Two) (listing s documents)

-- Documents of zeros. The length of a listing's rows depends only on the lengths of the documents.
abbrev pub blank : State → ℕ → List ℕ
blank s j = replicate (len_at s j) 0

-- The rows of a job, with zeros for its document.
abbrev pub blank_rows : Job → List Row
blank_rows r = job_rows r (replicate (document_len r) 0)

-- The current area of the image has this epoch.
pub record HasEpoch (epoch : ℕ) (image : List ℕ) : Type 0 where
  pub base : ℕ
  pub current : current_area image ≡ Ok base
  pub epoch_is : epoch_of (header_at base image) ≡ epoch

-- The current area of the image has the newest version and this epoch. It contains the listing of the table, with documents of
-- the jobs' lengths, and no event.
pub record IsCheckpointed (s : State) (epoch : ℕ) (image : List ℕ) : Type 0 where
  pub base : ℕ
  pub documents : ℕ → List ℕ
  pub fit : AreDocuments s documents
  pub listing : HasPayloads base (listed_payloads s documents) image
  pub version_is : version_of (header_at base image) ≡ newest_version
  pub epoch_is : epoch_of (header_at base image) ≡ epoch

-- ## Its results

-- The rows of the table's listing, appended in order to an area of this length, do not get `Full`: after each record and its next
-- gate at least six more bytes are left.
abbrev pub holds_listing : ℕ → State → Bool
holds_listing len s = has_room len header_len (map length (listed_payloads s (blank s)))

-- The number of bytes left after the table's listing in an area of this length.
abbrev pub room_beside : ℕ → State → ℕ
room_beside len s = len - gate_after 0 (listed_payloads s (blank s))

-- The spool is not dead, and a next epoch exists.
pub record MayList {D : Type 0} (spool : OpenSpool D) : Type 0 where
  pub alive : spool.dead ≡ false
  pub epoch_left : ¬ (spool.epoch ≡ last_epoch)

-- The table is in the other area, with the next epoch and in the newest version, and is otherwise as before.
pub record IsListed {D : Type 0} (v : DiskView D) (old new : OpenSpool D) : Type 0 where
  pub may : MayList old
  pub fits : holds_listing (half (v.size old.disk)) old.state ≡ true
  pub state : new.state ≡ raised old.state
  pub epoch : new.epoch ≡ old.epoch + 1
  pub room : new.room ≡ room_beside (half (v.size old.disk)) old.state
  pub alive : new.dead ≡ false

-- The device failed, and the spool is dead.
pub record IsUnlisted {D : Type 0} (v : DiskView D) (old new : OpenSpool D) : Type 0 where
  pub may : MayList old
  pub fits : holds_listing (half (v.size old.disk)) old.state ≡ true
  pub state : new.state ≡ old.state
  pub epoch : new.epoch ≡ old.epoch
  pub room : new.room ≡ old.room
  pub dead : new.dead ≡ true
  pub cause : v.failures old.disk < v.failures new.disk

-- Each result of a checkpoint, with its cause and its effect. The causes in order: dead, the last epoch, out of memory, full,
-- device failure.
abbrev pub IsCheckpoint : {D : Type 0} → DiskView D → OpenSpool D → Result (Unit {0}) CheckpointFault → OpenSpool D → Type 0
IsCheckpoint v old (Ok done) new = IsListed v old new
IsCheckpoint v old (Err Dead) new = IsTrue old.dead × (new ≡ old)
IsCheckpoint v old (Err EpochEnd) new = (old.dead ≡ false) × (old.epoch ≡ last_epoch) × (new ≡ old)
IsCheckpoint v old (Err Memory) new = MayList old × (new ≡ old)
IsCheckpoint v old (Err Full) new = MayList old × (holds_listing (half (v.size old.disk)) old.state ≡ false) × (new ≡ old)
IsCheckpoint v old (Err Disk) new = IsUnlisted v old new

-- Converts a fault of the areas to that of a checkpoint.
abbrev pub fault_for : AreaFault → CheckpointFault
fault_for areas.Dead = Dead
fault_for areas.EpochEnd = EpochEnd
fault_for areas.Full = Full
fault_for areas.Disk = Disk

-- ## A job's row

-- A row can represent the job's size and its phase.
pub record MayBeListed (r : Job) : Type 0 where
  pub size : r.size ≤ longest_document
  pub phase : Fits r r.phase
