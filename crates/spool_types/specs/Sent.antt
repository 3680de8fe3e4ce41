-- The bytes of a job's document, and their places in a journal: the bytes that events sent to the job, and the pieces
-- of the job in a listing.
use Rattle.std.specs.Prelude.{ℕ, ◌+◌, List, [], ◌∷◌, ◌++◌, length, Option, None, Some, ◌==◌, if◌then◌else◌}
use Rattle.extents.specs.declared.extent.Extent.{Extent}
use Rattle.spool_types.specs.declared.event.Event.{Event}
use Rattle.spool_types.specs.declared.event.Event.TheVariants.{Send}
use Rattle.spool_types.specs.declared.listing.Row.{Row}
use Rattle.spool_types.specs.declared.listing.Row.TheVariants as rows

-- The job to which an event sends bytes, and these bytes.
abbrev pub sent_by : Event → Option (ℕ × List ℕ)
sent_by (Send j bytes) = Some (j, bytes)
sent_by e = None

-- The job whose piece a row is, and the bytes of the piece.
abbrev pub piece_of : Row → Option (ℕ × List ℕ)
piece_of (rows.Piece j bytes) = Some (j, bytes)
piece_of row = None

-- ---- the bytes

-- These bytes if they are for this job, otherwise none.
abbrev pub sent_to : ℕ → Option (ℕ × List ℕ) → List ℕ
sent_to j None = []
sent_to j (Some (k, bytes)) = if k == j then bytes else []

-- All bytes that the members of a list send to this job, in order. They are the job's document until the job ends.
abbrev pub sent_in : {E : Type 0} → (E → Option (ℕ × List ℕ)) → List E → ℕ → List ℕ
sent_in sends [] j = []
sent_in sends (e ∷ es) j = sent_to j (sends e) ++ sent_in sends es j

abbrev pub sent : List Event → ℕ → List ℕ
sent events j = sent_in sent_by events j

abbrev pub listed_pieces : List Row → ℕ → List ℕ
listed_pieces rows j = sent_in piece_of rows j

-- The bytes that a listing and the events after it have for this job.
abbrev pub document_in : List Row → List Event → ℕ → List ℕ
document_in rows events j = listed_pieces rows j ++ sent events j

-- ---- their places

-- The bytes of a send or a piece follow the payload's kind in one byte, the job in four and the length in four.
abbrev pub bytes_behind : ℕ
bytes_behind = 9

-- The extent of the `count` bytes of a send or a piece whose payload is at this place.
abbrev pub extent_behind : ℕ → ℕ → Extent
extent_behind place count = record { place = place + bytes_behind; len = count }

-- The extent of these bytes in the payload at this place, if they are for this job, otherwise none.
abbrev pub placed_to : ℕ → ℕ → Option (ℕ × List ℕ) → List Extent
placed_to place j None = []
placed_to place j (Some (k, bytes)) = if k == j then extent_behind place (length bytes) ∷ [] else []

-- The extents of a job, followed by that of these bytes if they are for it.
abbrev pub with_placed : List Extent → ℕ → ℕ → Option (ℕ × List ℕ) → List Extent
with_placed xs place j None = xs
with_placed xs place j (Some (k, bytes)) = if k == j then xs ++ extent_behind place (length bytes) ∷ [] else xs
