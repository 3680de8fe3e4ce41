-- A listing that is read row by row: which row may come next, and the progress after it.
use Rattle.std.specs.Prelude.{◌≡◌, ℕ, ◌+◌, ◌-◌, ◌==◌, ◌<◌, ◌≤◌, Bool, true, false, cond, List, [], ◌∷◌, length, min, Option, None, Some, IsSome}
use Rattle.std.specs.declared.cmp.Ordering.{Ordering}
use Rattle.std.specs.declared.cmp.Ordering.TheVariants.{Less}
use Rattle.std.specs.List.{AllByRecursion}
use Rattle.std.specs.Ordering.{nat_cmp}
use Rattle.std.specs.Cmp.Lexicographic.{slice_cmp}
use Rattle.std.specs.FinMap as finite
use Rattle.extents.specs.declared.extent.Extent.{Extent}
use Rattle.spool_types.specs.Busy.{is_busy}
use Rattle.spool_types.specs.Limits.{most_queues, longest_document, longest_send, greatest_number}
use Rattle.spool_types.specs.Phases.{is_processing}
use Rattle.spool_types.specs.State.{State, Job, nothing_in, queue_at}
use Rattle.spool_types.specs.declared.rows.QueueRow.{QueueRow}
use Rattle.spool_types.specs.declared.version.Version.{Version}
use Rattle.spool_types.specs.declared.listing.Head.{Head}
use Rattle.spool_types.specs.declared.listing.Row.{Row}
use Rattle.spool_types.specs.declared.listing.Row.TheVariants.{Head as HeadRow, Queue, Job as JobRow, Piece}
use Rattle.row_effects.specs.EffectFold.{IsInOrder}
use Rattle.job_table.specs.DocumentLengths.{document_len}
use Rattle.job_table.specs.Legal.{Fits}

-- A job, and the number of bytes of its document that were read.
pub record Part : Type 0 where
  pub row : Job
  pub read : ℕ

-- The progress after the rows so far: the table of the queues and of the jobs whose documents are complete, whether the
-- head was read, and the last job while its document is incomplete.
pub record Progress : Type 0 where
  pub state : State
  pub begun : Bool
  pub partial : Option Part

-- A loading as its callers see it: the progress, and the places of the pieces.
pub record Loaded : Type 0 where
  pub progress : Progress
  pub places : List (ℕ × List Extent)

abbrev pub begin_loading : Version → Progress
begin_loading version = record { state = nothing_in version; begun = false; partial = None }

-- No document is incomplete.
abbrev pub IsWhole : Progress → Type 0
IsWhole p = p.partial ≡ None

-- ## The effect of a row

-- No byte of the document was read yet.
abbrev pub begun_part : Job → Part
begun_part r = record { row = r; read = 0 }

abbrev pub headed : Version → Head → State
headed version head = record (nothing_in version) { highest = head.highest; moment = head.moment }

abbrev pub with_queue : State → QueueRow → State
with_queue s q = record s { queues = finite.insert s.queues q.name q }

abbrev pub with_job : State → Job → State
with_job s r = record s { jobs = finite.insert s.jobs r.id r }

abbrev pub with_piece : List ℕ → Part → Part
with_piece bytes x = record x { read = x.read + length bytes }

-- The last job is added to the table when its document is complete.
abbrev pub with_last : Progress → Part → Progress
with_last p x = cond (x.read == document_len x.row) (record p { state = with_job p.state x.row; partial = None }) (record p { partial = Some x })

abbrev pub with_next_piece : Progress → List ℕ → Option Part → Progress
with_next_piece p bytes None = p
with_next_piece p bytes (Some x) = with_last p (with_piece bytes x)

-- The progress after this row, if it may come next.
abbrev pub loaded : Progress → Row → Progress
loaded p (HeadRow head) = record { state = headed p.state.version head; begun = true; partial = None }
loaded p (Queue q) = record p { state = with_queue p.state q }
loaded p (JobRow r) = with_last p (begun_part r)
loaded p (Piece j bytes) = with_next_piece p bytes p.partial

-- ## Which row may come next

-- The key is greater than all of the keys.
abbrev pub IsAbove : {K : Type 0} → (K → K → Ordering) → K → List K → Type 0
IsAbove R k keys = AllByRecursion (λ (x : _). R x k ≡ Less) keys

-- The head comes first.
pub record IsNextHead (p : Progress) (head : Head) : Type 0 where
  pub first : p.begun ≡ false
  pub highest : head.highest ≤ greatest_number

-- A queue above all queues of a table without jobs, with its reasons and its attributes in order.
pub record IsNewQueue (s : State) (q : QueueRow) : Type 0 where
  pub no_jobs : finite.values s.jobs ≡ []
  pub few : finite.len s.queues < most_queues
  pub above : IsAbove (slice_cmp nat_cmp) q.name (finite.keys s.queues)
  pub in_order : IsInOrder q

pub record IsNextQueue (p : Progress) (q : QueueRow) : Type 0 where
  pub begun : p.begun ≡ true
  pub whole : IsWhole p
  pub new : IsNewQueue p.state q

-- A job above all jobs of the table. Its number is at most the highest assigned, its queue exists, its phase fits the
-- rest of its row, and it is the only processing job of its queue.
pub record IsNewJob (s : State) (r : Job) : Type 0 where
  pub above : IsAbove nat_cmp r.id (finite.keys s.jobs)
  pub given : r.id ≤ s.highest
  pub queue : IsSome (queue_at s r.queue)
  pub phase : Fits r r.phase
  pub size : r.size ≤ longest_document
  pub alone : is_processing r.phase ≡ true → is_busy (finite.values s.jobs) r.queue ≡ false

-- A job may come when the documents before it are complete.
pub record IsNextJob (p : Progress) (r : Job) : Type 0 where
  pub begun : p.begun ≡ true
  pub whole : IsWhole p
  pub new : IsNewJob p.state r

-- A piece has the greatest length, or is the rest of the document.
pub record IsNextPiece (x : Part) (j : ℕ) (bytes : List ℕ) : Type 0 where
  pub own : x.row.id ≡ j
  pub full : length bytes ≡ min (x.row.size - x.read) longest_send

abbrev pub IsPieceOf : Option Part → ℕ → List ℕ → Type 0
IsPieceOf None j bytes = ⊥
IsPieceOf (Some x) j bytes = IsNextPiece x j bytes

-- The row may come next: it is in place, and the table with it is legal.
abbrev pub IsPlaced : Progress → Row → Type 0
IsPlaced p (HeadRow head) = IsNextHead p head
IsPlaced p (Queue q) = IsNextQueue p q
IsPlaced p (JobRow r) = IsNextJob p r
IsPlaced p (Piece j bytes) = IsPieceOf p.partial j bytes

-- ## Many rows

-- Each row may come next after the rows before it.
abbrev pub ArePlaced : Progress → List Row → Type 0
ArePlaced p [] = Unit {0}
ArePlaced p (row ∷ rows) = IsPlaced p row × ArePlaced (loaded p row) rows

abbrev pub loaded_all : Progress → List Row → Progress
loaded_all p [] = p
loaded_all p (row ∷ rows) = loaded_all (loaded p row) rows
