-- The payloads of an area, read in order: rows first, and then events.
use Rattle.spool_disk.specs.Disk.{DiskView, ChangesNothing}
use Rattle.std.specs.Prelude.{◌≡◌, ◌⊎◌, ℕ, ◌+◌, ◌-◌, List, [], ◌∷◌, ◌++◌, length, take, drop, ⊤, Option, Some, None, false}
use Rattle.spool_types.specs.declared.event.Event.{Event}
use Rattle.spool_types.specs.declared.listing.Row.{Row}
use Rattle.spool_types.specs.declared.version.Version.{Version}
use Rattle.spool_types.specs.State.{State}
use Rattle.spool_types.specs.Sent.{sent_by}
use Rattle.job_table.specs.Contents.{Contents, places_of, no_moves, AddsPlaces}
use Rattle.job_table.specs.Over.{is_over}
use Rattle.job_table.specs.Step.{refusal_of, after}
use Rattle.documents.specs.Documents.{LieIn}
use Rattle.documents.specs.Placed.{placed_pieces}
use Rattle.spool_areas.specs.Header.{header_len}
use Rattle.spool_core.specs.SpoolFields.{ArePlacesOf, DocumentsLieIn}
use Rattle.job_table.specs.EventFold.{after_all}
use Rattle.job_table.specs.Loading.{Progress, Loaded, IsWhole}
use Rattle.event_codec.specs.Spelling.{spelling, IsSpellable}
use Rattle.event_codec.specs.RowSpelling.{row_spelling, IsRowSpellable}
use Rattle.field_codec.specs.declared.fault.CodecFault.{CodecFault}
use Rattle.field_codec.specs.declared.fault.CodecFault.TheVariants as codec
use Rattle.extents.specs.declared.extent.Extent.{Extent}
use Rattle.spool_areas.specs.declared.fault.OpenFault.{OpenFault}
use Rattle.spool_areas.specs.declared.fault.OpenFault.TheVariants.{NotASpool, Damaged, Memory, Disk}
use Rattle.spool_areas.specs.Payloads.{gate_after}
use Rattle.spool_areas.specs.Current.{Current}
use Rattle.spool_areas.specs.PayloadExtents.{bytes_of, payloads_at, Follow}
use Rattle.spool_core.specs.Image.{Begins, IsNoNext}
use Rattle.spool_core.specs.declared.fold.Reading.{Reading}
use Rattle.spool_core.specs.declared.fold.Reading.TheVariants.{Rows, Events}

-- The bytes of the extent are this payload.
pub record IsPayloadAt (bytes : List ℕ) (x : Extent) (payload : List ℕ) : Type 0 where
  pub same : bytes_of bytes x ≡ payload
  pub long : length payload ≡ x.len

-- The payloads are the rows of a complete listing and at least one event, and result in this table.
pub record IsBeyondRows (version : Version) (base : ℕ) (payloads : List (List ℕ)) (c : Contents) : Type 0 where
  pub progress : Progress
  pub events : List Event
  pub begins : Begins version payloads progress events
  pub whole : IsWhole progress
  pub some : ¬ (events ≡ [])
  pub table : c.state ≡ after_all progress.state events
  pub places : ArePlacesOf version base begins.rows events c

-- The payloads are rows that result in this loading, and it has the places of the pieces among them.
pub record AreRows (version : Version) (base : ℕ) (payloads : List (List ℕ)) (l : Loaded) : Type 0 where
  pub begins : Begins version payloads l.progress []
  pub places : (j : ℕ) → places_of l.places j ≡ placed_pieces version (base + header_len) begins.rows j

-- The payloads read so far are these, of the area at base, in this version.
abbrev pub HasRead : Version → ℕ → Reading → List (List ℕ) → Type 0
HasRead version base (Rows l) payloads = AreRows version base payloads l
HasRead version base (Events t) payloads = IsBeyondRows version base payloads t

-- The documents read so far are between these places.
abbrev pub ReadLiesIn : ℕ → ℕ → Reading → Type 0
ReadLiesIn low high (Rows l) = (j : ℕ) → LieIn low high (places_of l.places j)
ReadLiesIn low high (Events t) = DocumentsLieIn low high t

-- No new places of documents are noted yet.
abbrev pub HasNoneNoted : Reading → Type 0
HasNoneNoted (Rows l) = ⊤
HasNoneNoted (Events t) = t.moves ≡ no_moves

-- In this version the payload encodes this row and no other.
pub record IsRowIn (version : Version) (payload : List ℕ) (row : Row) : Type 0 where
  pub spellable : IsRowSpellable version row
  pub spelt : payload ≡ row_spelling version row
  pub only : (other : Row) → IsRowSpellable version other → payload ≡ row_spelling version other → other ≡ row

-- The payload encodes this row, or no row.
abbrev pub IsRowOrNone : Version → List ℕ → Option Row → Type 0
IsRowOrNone version payload (Some row) = IsRowIn version payload row
IsRowOrNone version payload None = (row : Row) → IsRowSpellable version row → payload ≡ row_spelling version row → ⊥

-- Numbers that are over stay over.
abbrev pub StayOver : State → State → Type 0
StayOver s t = (j : ℕ) → is_over t j ≡ false → is_over s j ≡ false

-- The payload encodes an event that this table accepts, and the event results in the other table.
pub record IsAfterEvent (c : Contents) (payload : List ℕ) (place : ℕ) (t : Contents) : Type 0 where
  pub event : Event
  pub spellable : IsSpellable event
  pub spelt : payload ≡ spelling event
  pub accepted : refusal_of c.state event ≡ None
  pub table : t.state ≡ after c.state event
  pub places : AddsPlaces place (sent_by event) c t
  pub moves : t.moves ≡ c.moves
  pub lasting : StayOver c.state t.state

abbrev pub IsNextEvent : Contents → List ℕ → ℕ → Reading → Type 0
IsNextEvent c payload place (Rows l) = ⊥
IsNextEvent c payload place (Events t) = IsAfterEvent c payload place t

-- The payload does not encode an event that this table accepts.
abbrev pub IsNoEvent : State → List ℕ → Type 0
IsNoEvent s payload = (e : Event) → IsSpellable e → payload ≡ spelling e → ¬ (refusal_of s e ≡ None)

-- Why no event was taken.
abbrev pub IsEventFault : State → List ℕ → Extent → OpenFault → Type 0
IsEventFault s payload x NotASpool = ⊥
IsEventFault s payload x (Damaged gate) = (gate ≡ x.place - 5) × IsNoEvent s payload
IsEventFault s payload x Memory = ⊤
IsEventFault s payload x Disk = ⊥

-- Why the event that was read was not taken.
abbrev pub IsCommitFault : State → Event → Extent → OpenFault → Type 0
IsCommitFault s e x NotASpool = ⊥
IsCommitFault s e x (Damaged gate) = (gate ≡ x.place - 5) × ¬ (refusal_of s e ≡ None)
IsCommitFault s e x Memory = ⊤
IsCommitFault s e x Disk = ⊥

-- A payload that was not decoded is damage at its gate, unless memory ran out.
abbrev pub decode_fault : Extent → CodecFault → OpenFault
decode_fault x codec.Kind = Damaged (x.place - 5)
decode_fault x codec.Length = Damaged (x.place - 5)
decode_fault x codec.Range = Damaged (x.place - 5)
decode_fault x codec.Utf8 = Damaged (x.place - 5)
decode_fault x codec.Memory = Memory

-- This payload may not come next after these.
pub record IsStopped (version : Version) (payloads : List (List ℕ)) (payload : List ℕ) : Type 0 where
  pub progress : Progress
  pub events : List Event
  pub begins : Begins version payloads progress events
  pub strange : IsNoNext version progress events payload

-- Why a payload was not taken after these.
abbrev pub IsTakeFault : Version → List (List ℕ) → List ℕ → Extent → OpenFault → Type 0
IsTakeFault version payloads payload x NotASpool = ⊥
IsTakeFault version payloads payload x (Damaged gate) = (gate ≡ x.place - 5) × IsStopped version payloads payload
IsTakeFault version payloads payload x Memory = ⊤
IsTakeFault version payloads payload x Disk = ⊥

-- The rows end before a document is complete.
pub record IsCutShort (version : Version) (payloads : List (List ℕ)) : Type 0 where
  pub progress : Progress
  pub begins : Begins version payloads progress []
  pub short : ¬ (IsWhole progress)

-- Why the payloads, which end at this gate, result in no table.
abbrev pub IsFinishFault : Version → List (List ℕ) → ℕ → OpenFault → Type 0
IsFinishFault version payloads gate NotASpool = ⊥
IsFinishFault version payloads gate (Damaged place) = (place ≡ gate) × IsCutShort version payloads
IsFinishFault version payloads gate Memory = ⊤
IsFinishFault version payloads gate Disk = ⊥

-- Why no payload was read.
abbrev pub IsReadFault : OpenFault → Type 0
IsReadFault NotASpool = ⊥
IsReadFault (Damaged gate) = ⊥
IsReadFault Memory = ⊤
IsReadFault Disk = ⊤

-- The first of the extents that may not come next has its gate at this place.
pub record StopsAt (version : Version) (base : ℕ) (extents : List Extent) (bytes : List ℕ) (place : ℕ) : Type 0 where
  pub front : List Extent
  pub extent : Extent
  pub rest : List Extent
  pub parts : extents ≡ front ++ extent ∷ rest
  pub stopped : IsStopped version (payloads_at bytes front) (bytes_of bytes extent)
  pub gate : place ≡ gate_after base (payloads_at bytes front)

-- The extents end at this place, before a document is complete.
pub record EndsShort (version : Version) (base : ℕ) (extents : List Extent) (bytes : List ℕ) (place : ℕ) : Type 0 where
  pub cut : IsCutShort version (payloads_at bytes extents)
  pub gate : place ≡ gate_after base (payloads_at bytes extents)

-- Why the extents result in no table.
abbrev pub IsFoldFault : Version → ℕ → List Extent → List ℕ → OpenFault → Type 0
IsFoldFault version base extents bytes NotASpool = ⊥
IsFoldFault version base extents bytes (Damaged place) = StopsAt version base extents bytes place ⊎ EndsShort version base extents bytes place
IsFoldFault version base extents bytes Memory = ⊤
IsFoldFault version base extents bytes Disk = ⊤

-- The first n extents were read, and the others follow them.
pub record IsFolded (version : Version) (base end : ℕ) (extents : List Extent) (n : ℕ) (bytes : List ℕ) (reading : Reading) : Type 0 where
  pub read : HasRead version base reading (payloads_at bytes (take n extents))
  pub follow : Follow (gate_after base (payloads_at bytes (take n extents))) (drop n extents) end

-- The areas were read, and are as before.
pub record IsRead {D : Type 0} (v : DiskView D) (old new : Current D) : Type 0 where
  pub base : new.base ≡ old.base
  pub end : new.end ≡ old.end
  pub epoch : new.epoch ≡ old.epoch
  pub version : new.version ≡ old.version
  pub gate : new.gate ≡ old.gate
  pub held : new.held ≡ old.held
  pub disk : ChangesNothing v old.disk new.disk
