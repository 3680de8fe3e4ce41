-- Rows by their keys.
use Rattle.std.specs.Prelude.{◌≡◌, ℕ, ◌-◌, ◌≤◌, true, false, List, [], ◌∷◌, IsSome, vec_len, vec_capacity}
use Rattle.std.specs.Ordering.{nat_cmp}
use Rattle.std.specs.FinMap.{find}
use Rattle.extents.specs.declared.extent.Extent.{Extent}
use Rattle.extents.specs.Extents.{size_of}
use Rattle.spool_types.specs.Phases.{has_ended}
use Rattle.spool_types.specs.State.{Job}
use Rattle.spool_types.specs.declared.rows.QueueRow.{QueueRow}
use Rattle.spool_types.specs.declared.rows.JobRow.{JobRow}
use Rattle.job_table.specs.Contents.{Noted, move_room, places_of}
use Rattle.job_table.specs.DocumentLengths.{document_len}

abbrev pub queue_entry : QueueRow → List ℕ × QueueRow
queue_entry r = (r.name, r)

abbrev pub job_entry : JobRow → ℕ × Job
job_entry r = (r.job.id, r.job)

-- The number of extents that the document can take without allocating.
abbrev pub document_spare : JobRow → ℕ
document_spare r = vec_capacity r.document - vec_len r.document

abbrev pub document_entry : JobRow → ℕ × ℕ
document_entry r = (r.job.id, document_spare r)

abbrev pub place_entry : JobRow → ℕ × List Extent
place_entry r = (r.job.id, r.document.items)

-- A job that has ended has no memory for its document.
abbrev pub IsFreed : JobRow → Type 0
IsFreed r = has_ended r.job.phase ≡ true → vec_capacity r.document ≡ 0

-- The total length of the extents is that of the document.
pub record HoldsDocument (r : JobRow) : Type 0 where
  pub freed : IsFreed r
  pub sized : size_of r.document.items ≡ document_len r.job

abbrev pub HoldDocuments : List JobRow → Type 0
HoldDocuments [] = Unit {0}
HoldDocuments (r ∷ rs) = HoldsDocument r × HoldDocuments rs

-- The changed row has at most as much room for its document.
pub record TakesNone (old new : JobRow) : Type 0 where
  pub spare : document_spare new ≤ document_spare old
  pub holds : HoldsDocument old → HoldsDocument new

-- The document does not move, unless the job has ended.
abbrev pub KeepsDocument : JobRow → JobRow → Type 0
KeepsDocument old new = has_ended new.job.phase ≡ false → new.document.items ≡ old.document.items

-- New places are noted for the document, unless the job has ended.
abbrev pub HasNew : List (ℕ × List Extent) → JobRow → Type 0
HasNew places r = has_ended r.job.phase ≡ false → IsSome (find nat_cmp r.job.id places)

-- The document is at the new places, with the room left in their list, unless the job has ended. Nothing else has
-- changed.
pub record IsMoved (noted : Noted) (old new : JobRow) : Type 0 where
  pub row : new.job ≡ old.job
  pub lives : has_ended old.job.phase ≡ false → new.document.items ≡ places_of noted.places old.job.id
  pub spare : has_ended old.job.phase ≡ false → document_spare new ≡ move_room noted old.job.id
  pub over : has_ended old.job.phase ≡ true → new ≡ old
