-- Filling the other area with the rows of a listing, and noting the new places of the documents.
use Rattle.std.specs.Prelude.{◌≡◌, ◌<◌, ◌≤◌, ℕ, ◌+◌, ◌-◌, ◌*◌, ◌⊎◌, List, [], ◌∷◌, ◌++◌, length, map, take, drop, true, false, if◌then◌else◌, ◌==◌, Some, IsSome, Result, OnOk, OnErr}
use Rattle.std.specs.Ordering.{nat_cmp}
use Rattle.std.specs.FinMap.{find}
use Rattle.std.specs.FinMap as finite
use Rattle.std.specs.List.{flat_map, AllByRecursion}
use Rattle.extents.specs.declared.extent.Extent.{Extent}
use Rattle.extents.specs.Extents.{size_of}
use Rattle.spool_types.specs.Limits.{longest_send}
use Rattle.spool_types.specs.Sent.{piece_of, placed_to, with_placed}
use Rattle.spool_types.specs.State.{State, Job, job_at}
use Rattle.spool_types.specs.declared.listing.Row.{Row}
use Rattle.spool_types.specs.declared.listing.Row.TheVariants.{Piece}
use Rattle.spool_types.specs.declared.version.Version.TheVariants.{Two}
use Rattle.spool_disk.specs.Disk.{DiskView, SameOutside, IsSynced, LeavesOnly, ChangesOnly}
use Rattle.spool_areas.specs.Checkpoint.{area_len, other_base, ChangesOver, IsChanged}
use Rattle.spool_areas.specs.Current.{Current, KeepsPayloads}
use Rattle.spool_areas.specs.Header.{header_len}
use Rattle.spool_areas.specs.Payloads.{HasVersionAndPayloads}
use Rattle.spool_areas.specs.declared.fault.AreaFault.{AreaFault}
use Rattle.spool_areas.specs.declared.fault.ReadFault.{ReadFault}
use Rattle.event_codec.specs.RowSpelling.{row_spelling, IsRowSpellable}
use Rattle.listing_rows.specs.RowFilling.{Filling, filling, MayFill, AddsRows}
use Rattle.job_table.specs.Contents.{Contents, Noted, move_room, places_at, places_of}
use Rattle.job_table.specs.DocumentLengths.{document_len}
use Rattle.job_table.specs.Listing.{job_rows, listing}
use Rattle.job_table.specs.Over.{is_over}
use Rattle.documents.specs.Documents.{joined, LieIn}
use Rattle.documents.specs.Placed.{placed_pieces}
use Rattle.spool_core.specs.Checkpointing.{MayBeListed, blank, blank_rows}
use Rattle.spool_core.specs.Folding.{IsRead}

-- There is room to note new places for the whole document of each job.
abbrev pub HasMoveRoom : State → Noted → Type 0
HasMoveRoom s noted = (j : ℕ) (r : Job) → job_at s j ≡ Some r → document_len r ≤ move_room noted j * longest_send

-- These are the bytes that the disk shows, except in the other area.
pub record TellsBut {D : Type 0} (v : DiskView D) (areas : Current D) (r : List ℕ) : Type 0 where
  pub now : List ℕ
  pub tells : v.bytes areas.disk ≡ Some now
  pub same : SameOutside (other_base areas) (area_len areas) r now

-- The areas were read, and nothing has changed, except that they are dead after a fault. The fault is the device's.
pub record IsReadOn {D T : Type 0} (v : DiskView D) (old new : Current D) (r : Result T ReadFault) : Type 0 where
  pub read : IsRead v old new
  pub alive : OnOk r (new.dead ≡ false)
  pub counted : OnOk r (v.failures new.disk ≡ v.failures old.disk)
  pub dead : OnErr r (new.dead ≡ true)
  pub cause : OnErr r (v.failures old.disk < v.failures new.disk)

-- ## Rows that differ in the bytes of their pieces

-- The rows differ at most in the bytes of a piece, not in the number of these bytes.
pub record IsAlike (a b : Row) : Type 0 where
  pub long : length (row_spelling Two b) ≡ length (row_spelling Two a)
  pub placed : (place j : ℕ) → placed_to place j (piece_of b) ≡ placed_to place j (piece_of a)

abbrev pub AreAlike : List Row → List Row → Type 0
AreAlike [] [] = Unit {0}
AreAlike (a ∷ rows) (b ∷ others) = IsAlike a b × AreAlike rows others
AreAlike [] (b ∷ others) = ⊥
AreAlike (a ∷ rows) [] = ⊥

-- ## A piece

-- The piece was added, with the bytes of the document from `at` on.
pub record IsPieceAdded {D : Type 0} (v : DiskView D) (document : List Extent) (job at count : ℕ) (old new : Filling D) : Type 0 where
  pub bytes : List ℕ
  pub long : length bytes ≡ count
  pub told : (r : List ℕ) → TellsBut v old.areas r → bytes ≡ take count (drop at (joined r document))
  pub adds : AddsRows v (Piece job bytes ∷ []) old new

-- The place of the piece is noted, after the gate of its record.
pub record IsPieceNoted (job count gate : ℕ) (old new : Noted) : Type 0 where
  pub noted : (bytes : List ℕ) (j : ℕ) → length bytes ≡ count → places_of new.places j ≡ with_placed (places_of old.places j) (gate + 5) j (Some (job, bytes))
  pub there : (j : ℕ) → IsSome (find nat_cmp j old.places) → IsSome (find nat_cmp j new.places)
  pub room : (j : ℕ) → move_room new j ≡ (if job == j then move_room old j - 1 else move_room old j)

-- ## A document

-- The rows of this job are next, and there is room to note the new place of its document. The document is in the current area.
pub record IsDue {D : Type 0} (v : DiskView D) (table : Contents) (job : ℕ) (f : Filling D) : Type 0 where
  pub row : Job
  pub there : job_at table.state job ≡ Some row
  pub id : row.id ≡ job
  pub listed : MayBeListed row
  pub may : MayFill v (blank_rows row) f
  pub lie : is_over table.state job ≡ false → LieIn (f.areas.base + header_len) f.areas.end (places_at table job)
  pub sized : size_of (places_at table job) ≡ document_len row
  pub room : document_len row ≤ move_room table.moves job * longest_send

-- The rows of the job were added with the document.
pub record IsDocumentAdded {D : Type 0} (v : DiskView D) (document : List Extent) (row : Job) (old new : Filling D) : Type 0 where
  pub rows : List Row
  pub alike : AreAlike (blank_rows row) rows
  pub told : (r : List ℕ) → TellsBut v old.areas r → rows ≡ job_rows row (joined r document)
  pub adds : AddsRows v rows old new

-- The places of the job's pieces are noted after the others.
pub record IsDocumentNoted (row : Job) (gate : ℕ) (old new : Noted) : Type 0 where
  pub noted : (j : ℕ) → places_of new.places j ≡ places_of old.places j ++ placed_pieces Two gate (blank_rows row) j
  pub there : (j : ℕ) → IsSome (find nat_cmp j old.places) → IsSome (find nat_cmp j new.places)
  pub room : (j : ℕ) → (¬ (row.id ≡ j)) → move_room new j ≡ move_room old j

-- ## All documents

-- The documents that these bytes have at their places.
abbrev pub lying : Contents → List ℕ → ℕ → List ℕ
lying c r j = joined r (places_at c j)

-- The rows of jobs, each with its document.
abbrev pub rows_of : (ℕ → List ℕ) → List Job → List Row
rows_of documents rs = flat_map (λ r. job_rows r (documents r.id)) rs

-- The rows of all jobs were added with their documents. The new places of these are noted after the others.
pub record AreJobsAdded {D : Type 0} (v : DiskView D) (table : Contents) (old new : Filling D) : Type 0 where
  pub rows : List Row
  pub alike : AreAlike (flat_map blank_rows (finite.values table.state.jobs)) rows
  pub told : (r : List ℕ) → TellsBut v old.areas r → rows ≡ rows_of (lying table r) (finite.values table.state.jobs)
  pub adds : AddsRows v rows old new

pub record AreJobsNoted (s : State) (gate : ℕ) (old new : Noted) : Type 0 where
  pub noted : (j : ℕ) → places_of new.places j ≡ places_of old.places j ++ placed_pieces Two gate (flat_map blank_rows (finite.values s.jobs)) j
  pub there : (j : ℕ) → IsSome (find nat_cmp j old.places) → IsSome (find nat_cmp j new.places)

-- ## The listing

-- These rows are the listing of the table, with documents of the jobs' lengths. If the disk shows its bytes, they are the
-- documents in these bytes.
pub record IsListing (Told : List ℕ → Type 0) (table : Contents) (rows : List Row) : Type 0 where
  pub spellable : AllByRecursion (IsRowSpellable Two) rows
  pub alike : AreAlike (listing table.state (blank table.state)) rows
  pub told : (r : List ℕ) → Told r → rows ≡ listing table.state (lying table r)

pub record IsListingAdded {D : Type 0} (v : DiskView D) (table : Contents) (old new : Filling D) : Type 0 where
  pub rows : List Row
  pub listing_is : IsListing (TellsBut v old.areas) table rows
  pub adds : AddsRows v rows old new

-- The noted places are those of a listing whose first gate is at `first`.
pub record AreDocumentsNoted (s : State) (first : ℕ) (noted : Noted) : Type 0 where
  pub places : (j : ℕ) (r : Job) → job_at s j ≡ Some r → places_of noted.places j ≡ placed_pieces Two first (listing s (blank s)) j
  pub there : (j : ℕ) (r : Job) → job_at s j ≡ Some r → IsSome (find nat_cmp j noted.places)

-- ## The areas afterwards

-- A listing of the table was written to the other area, which is now the current one.
pub record HasListing {D : Type 0} (v : DiskView D) (table : Contents) (old new : Current D) : Type 0 where
  pub rows : List Row
  pub listing_is : IsListing (λ r. v.bytes old.disk ≡ Some r) table rows
  pub changed : IsChanged old (map (row_spelling Two) rows) new
  pub kept : (payloads : List (List ℕ)) → KeepsPayloads v old payloads → KeepsPayloads v new (map (row_spelling Two) rows)

-- A crash meanwhile leaves the old payloads, and from some moment on these or a listing.
pub record LeavesListing {D : Type 0} (v : DiskView D) (table : Contents) (old new : Current D) : Type 0 where
  pub rows : List Row
  pub listing_is : IsListing (λ r. v.bytes old.disk ≡ Some r) table rows
  pub over : (payloads : List (List ℕ)) → KeepsPayloads v old payloads → ChangesOver v old.disk new.disk old.base old.version payloads (other_base old) (map (row_spelling Two) rows)

abbrev pub LeavesOld : {D : Type 0} → DiskView D → Current D → Current D → Type 0
LeavesOld v old new = (payloads : List (List ℕ)) → KeepsPayloads v old payloads → LeavesOnly v old.disk new.disk (HasVersionAndPayloads old.base old.version payloads)

-- The effect of filling the other area and opening it, whatever the result.
pub record IsFilledOver {D T : Type 0} (v : DiskView D) (table : Contents) (old new : Current D) (r : Result T AreaFault) : Type 0 where
  pub changes : ChangesOnly v old.disk new.disk (other_base old) (area_len old)
  pub leaves : LeavesOld v old new ⊎ LeavesListing v table old new
  pub listed : OnOk r (HasListing v table old new)
  pub durable : OnOk r (IsSynced v new.disk)
  pub alive : OnOk r (new.dead ≡ false)
  pub counted : OnOk r (v.failures new.disk ≡ v.failures old.disk)
  pub held : OnErr r ((new.base ≡ old.base) × (new.end ≡ old.end) × (new.epoch ≡ old.epoch) × (new.gate ≡ old.gate) × (new.version ≡ old.version))
  pub dead : OnErr r (new.dead ≡ true)
  pub cause : OnErr r (v.failures old.disk < v.failures new.disk)
