-- The meaning of a loading's fields.
use Rattle.std.specs.Prelude.{◌≡◌, ℕ, ◌+◌, ◌*◌, ◌^◌, ◌<◌, false, List, [], ◌∷◌, ◌++◌, Option, None, Some}
use Rattle.std.specs.Option.{option_map}
use Rattle.extents.specs.declared.extent.Extent.{Extent}
use Rattle.extents.specs.Extents.{size_of}
use Rattle.spool_types.specs.Limits.{longest_send}
use Rattle.spool_types.specs.Phases.{has_ended}
use Rattle.spool_types.specs.Sent.{with_placed, extent_behind, piece_of}
use Rattle.spool_types.specs.State.{State, nothing_in}
use Rattle.spool_types.specs.declared.listing.Row.{Row}
use Rattle.job_table.specs.Contents.{places_of}
use Rattle.job_table.specs.Legal.{IsLegal}
use Rattle.job_table.specs.Loading.{Part, Progress, Loaded, IsNewJob}
use Rattle.job_table.specs.TableRows.{place_entry}
use Rattle.job_table.specs.declared.loading.Loading.TheInside.{Inside}
use Rattle.job_table.specs.declared.loading.Partial.{Partial}

abbrev pub part_of : Partial → Part
part_of p = record { row = p.row.job; read = p.read }

abbrev pub progress_of : Inside → Progress
progress_of a = record { state = a.store.state; begun = a.begun; partial = option_map part_of a.partial }

-- The places of the last job, followed by those of the other jobs.
abbrev pub with_last_place : Option Partial → List (ℕ × List Extent) → List (ℕ × List Extent)
with_last_place None places = places
with_last_place (Some p) places = place_entry p.row ∷ places

abbrev pub loaded_of : Inside → Loaded
loaded_of a = record { progress = progress_of a; places = with_last_place a.partial a.store.places }

-- The extent of a piece in the payload at this place is added to its document.
abbrev pub AddsPiece : ℕ → Row → List (ℕ × List Extent) → List (ℕ × List Extent) → Type 0
AddsPiece at row old new = (j : ℕ) → places_of new j ≡ with_placed (places_of old j) at j (piece_of row)

-- Full pieces of the document were read, and the rest is missing.
pub record IsPartial (s : State) (x : Part) : Type 0 where
  pub new : IsNewJob s x.row
  pub goes_on : has_ended x.row.phase ≡ false
  pub short : x.read < x.row.size
  pub pieces : (n : ℕ) × (x.read ≡ n * longest_send)

abbrev pub IsPartialIn : State → Option Part → Type 0
IsPartialIn s None = Unit {0}
IsPartialIn s (Some x) = IsPartial s x

-- Nothing was read.
pub record IsFresh (p : Progress) : Type 0 where
  pub state : p.state ≡ nothing_in p.state.version
  pub whole : p.partial ≡ None

-- The table is legal, and the incomplete job may be added to it.
pub record IsReading (p : Progress) : Type 0 where
  pub legal : IsLegal p.state
  pub fresh : p.begun ≡ false → IsFresh p
  pub partial : IsPartialIn p.state p.partial

-- The total length of the last job's extents is the number of bytes that were read.
abbrev pub IsMeasured : Option Partial → Type 0
IsMeasured None = Unit {0}
IsMeasured (Some p) = size_of p.row.document.items ≡ p.read

pub record IsLoading (a : Inside) : Type 0 where
  pub reading : IsReading (progress_of a)
  pub measured : IsMeasured a.partial

-- ## A new piece

-- The number of bytes stays below 2^64.
abbrev pub MayGrow : ℕ → Option Partial → Type 0
MayGrow count None = Unit {0}
MayGrow count (Some p) = p.read + count < 2 ^ 64

-- The last job has one more piece of `count` bytes. The piece's payload is at this place.
abbrev pub IsGrown : ℕ → ℕ → Option Partial → Option Partial → Type 0
IsGrown at count None new = new ≡ None
IsGrown at count (Some p) None = ⊥
IsGrown at count (Some p) (Some q) =
    (q.row.job ≡ p.row.job) × (q.read ≡ p.read + count) × (q.row.document.items ≡ p.row.document.items ++ extent_behind at count ∷ [])

-- The last job is unchanged, except for its memory.
abbrev pub HasSameParts : Option Partial → Option Partial → Type 0
HasSameParts None new = new ≡ None
HasSameParts (Some p) None = ⊥
HasSameParts (Some p) (Some q) = (q.row.job ≡ p.row.job) × (q.read ≡ p.read) × (q.row.document.items ≡ p.row.document.items)
