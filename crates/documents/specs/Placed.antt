-- The places of the documents of an area.
use Rattle.std.specs.Prelude.{◌≡◌, ℕ, ◌+◌, List, [], ◌∷◌, ◌++◌, length, map, Option, Some}
use Rattle.spool_types.specs.Sent.{sent_by, piece_of, placed_to, bytes_behind}
use Rattle.spool_types.specs.declared.event.Event.{Event}
use Rattle.spool_types.specs.declared.listing.Row.{Row}
use Rattle.spool_types.specs.declared.version.Version.{Version}
use Rattle.event_codec.specs.Spelling.{spelling}
use Rattle.event_codec.specs.RowSpelling.{row_spelling}
use Rattle.extents.specs.declared.extent.Extent.{Extent}
use Rattle.spool_areas.specs.Header.{header_len}
use Rattle.spool_areas.specs.Payloads.{gate_after}

-- The extents of the bytes that the members of a list send to a job, by the spelling of each and the bytes that it sends. The record of the
-- first has its gate at this offset, and the others follow.
abbrev pub placed_in : {E : Type 0} → (E → List ℕ) → (E → Option (ℕ × List ℕ)) → ℕ → List E → ℕ → List Extent
placed_in spell sends gate [] j = []
placed_in spell sends gate (e ∷ es) j = placed_to (gate + 5) j (sends e) ++ placed_in spell sends (gate + 5 + length (spell e)) es j

abbrev pub placed : ℕ → List Event → ℕ → List Extent
placed gate events j = placed_in spelling sent_by gate events j

abbrev pub placed_pieces : Version → ℕ → List Row → ℕ → List Extent
placed_pieces version gate rows j = placed_in (row_spelling version) piece_of gate rows j

-- The payloads of a listing and of the events after it, in an area of this version.
abbrev pub payloads_of : Version → List Row → List Event → List (List ℕ)
payloads_of version rows events = map (row_spelling version) rows ++ map spelling events

-- The places of a job's document in the area that begins at `base` and has this listing, followed by these events.
abbrev pub places_in : Version → ℕ → List Row → List Event → ℕ → List Extent
places_in version base rows events j = placed_pieces version (base + header_len) rows j ++ placed (gate_after base (map (row_spelling version) rows)) events j

-- ---- the condition for both to agree

-- The bytes that a member sends are the end of its spelling, after nine other bytes.
abbrev pub SpellsSent : {E : Type 0} → (E → List ℕ) → (E → Option (ℕ × List ℕ)) → Type 0
SpellsSent {E} spell sends = (e : E) (k : ℕ) (bytes : List ℕ) → sends e ≡ Some (k, bytes) →
    (front : List ℕ) × (length front ≡ bytes_behind) × (spell e ≡ front ++ bytes)
