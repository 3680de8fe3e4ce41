-- The meaning of a spool's fields.
use Rattle.spool_disk.specs.Disk.{DiskView}
use Rattle.std.specs.Prelude.{◌≡◌, ◌⊎◌, ◌<◌, ◌≤◌, ℕ, ◌+◌, ◌-◌, List, ◌++◌, false, Some, IsSome}
use Rattle.std.specs.List.{AllByRecursion}
use Rattle.extents.specs.declared.extent.Extent.{Extent}
use Rattle.spool_types.specs.State.{State}
use Rattle.spool_types.specs.declared.event.Event.{Event}
use Rattle.spool_types.specs.declared.listing.Row.{Row}
use Rattle.spool_types.specs.declared.version.Version.{Version}
use Rattle.spool_areas.specs.Header.{header_len}
use Rattle.spool_areas.specs.AreaFields.{IsArea}
use Rattle.job_table.specs.Contents.{Contents, no_moves, places_at}
use Rattle.job_table.specs.Over.{is_over}
use Rattle.documents.specs.Documents.{LieIn}
use Rattle.documents.specs.Placed.{places_in}
use Rattle.gate_journal.specs.Staged.{gate_of}
use Rattle.spool_areas.specs.AreaStages.{KeepsStagedPayloads, AreSettled}
use Rattle.spool_areas.specs.Current.{Current, KeepsPayloads}
use Rattle.spool_core.specs.History.{IsHistory}
use Rattle.spool_core.specs.VersionNumbers.{number_of}
use Rattle.job_table.specs.Attempts.{HasNoProcessing}
use Rattle.gate_journal.specs.Appends.{kept_room}
use Rattle.spool_core.specs.OpenSpools.{OpenSpool}
use Rattle.spool_core.specs.declared.spool.Spool.TheInside.{Inside}

-- The areas and the table as an open spool.
abbrev pub open_spool_at : {D : Type 0} → Current D → State → OpenSpool D
open_spool_at areas s = record { disk = areas.disk; state = s; room = areas.end - areas.gate; epoch = areas.epoch; held = areas.held; dead = areas.dead }

abbrev pub open_spool_of : {D : Type 0} → Inside D → OpenSpool D
open_spool_of a = open_spool_at a.areas a.table.state

-- The documents are where these rows and events of the area at base have them in this version, except those of numbers that are
-- over.
abbrev pub ArePlacesOf : Version → ℕ → List Row → List Event → Contents → Type 0
ArePlacesOf version base rows events c = (j : ℕ) → is_over c.state j ≡ false → places_at c j ≡ places_in version base rows events j

-- These payloads of the area at base, in the version with this number, result in the table, and the documents are where they have
-- them.
pub record HasHistory (base number : ℕ) (payloads : List (List ℕ)) (c : Contents) : Type 0 where
  pub version : Version
  pub number_is : number ≡ number_of version
  pub history : IsHistory version payloads c.state
  pub places : ArePlacesOf version base history.rows history.events c

-- Each image of the disk has the history of the table in its current area, and the documents are where that history has them.
pub record KeepsTable {D : Type 0} (v : DiskView D) (areas : Current D) (c : Contents) : Type 0 where
  pub version : Version
  pub payloads : List (List ℕ)
  pub kept : KeepsPayloads v areas payloads
  pub number_is : areas.version ≡ number_of version
  pub history : IsHistory version payloads c.state
  pub places : ArePlacesOf version areas.base history.rows history.events c

-- The documents are between these places, except those of numbers that are over.
abbrev pub DocumentsLieIn : ℕ → ℕ → Contents → Type 0
DocumentsLieIn low high c = (j : ℕ) → is_over c.state j ≡ false → LieIn low high (places_at c j)

-- The area is one of the disk's two, and the gate is in it, after the header. If a job is processing, the room for the record of
-- a reopening is after the gate. The documents are between the header and the gate. As long as the device has not failed, its
-- images have the table, if it shows its bytes.
pub record IsOpenSpoolAt {D : Type 0} (v : DiskView D) (areas : Current D) (c : Contents) : Type 0 where
  pub area : IsArea areas.base areas.end (v.size areas.disk)
  pub behind : areas.base + header_len ≤ areas.gate
  pub inside : areas.gate ≤ areas.end
  pub roomy : ¬ (HasNoProcessing c.state) → areas.gate + kept_room ≤ areas.end
  pub lie : DocumentsLieIn (areas.base + header_len) areas.gate c
  pub table : areas.dead ≡ false → IsSome (v.bytes areas.disk) → KeepsTable v areas c

-- Each extent ends at this offset at the latest, or begins after it.
abbrev pub Avoid : ℕ → List Extent → Type 0
Avoid at xs = AllByRecursion (λ x. (x.place + x.len ≤ at) ⊎ (at < x.place)) xs

-- Each image of the disk has the history of the table `before` in its current area. The staged events are written after it. They
-- lead from that table to this one, and the documents are where the rows and all these events have them.
pub record KeepsStagedTable {D : Type 0} (v : DiskView D) (areas : Current D) (before : State) (c : Contents) : Type 0 where
  pub version : Version
  pub payloads : List (List ℕ)
  pub staged : List (List ℕ)
  pub kept : KeepsStagedPayloads v areas payloads staged
  pub number_is : areas.version ≡ number_of version
  pub begins : IsHistory version payloads before
  pub room : ¬ (HasNoProcessing before) → gate_of areas.held areas.gate + kept_room ≤ areas.end
  pub history : IsHistory version (payloads ++ staged) c.state
  pub places : ArePlacesOf version areas.base history.rows history.events c

-- The areas of an open spool, whose last events may be staged. No document contains the held gate. As long as the device has not
-- failed, its images have one table, from which the staged events lead to this one.
pub record IsStagedAt {D : Type 0} (v : DiskView D) (areas : Current D) (c : Contents) : Type 0 where
  pub area : IsArea areas.base areas.end (v.size areas.disk)
  pub behind : areas.base + header_len ≤ areas.gate
  pub inside : areas.gate ≤ areas.end
  pub roomy : ¬ (HasNoProcessing c.state) → areas.gate + kept_room ≤ areas.end
  pub lie : DocumentsLieIn (areas.base + header_len) areas.gate c
  pub clear : areas.dead ≡ false → (gate : ℕ) → areas.held ≡ Some gate → (gate < areas.gate) × ((j : ℕ) → is_over c.state j ≡ false → Avoid gate (places_at c j))
  pub table : areas.dead ≡ false → IsSome (v.bytes areas.disk) → (before : State) × KeepsStagedTable v areas before c

-- The fields are those of an open spool, whose last events may be staged, and its table has noted no new places of documents.
pub record IsOpenSpool {D : Type 0} (v : DiskView D) (a : Inside D) : Type 0 where
  pub stands : AreSettled a.areas → IsOpenSpoolAt v a.areas a.table
  pub staged : IsStagedAt v a.areas a.table
  pub unmoved : a.table.moves ≡ no_moves
