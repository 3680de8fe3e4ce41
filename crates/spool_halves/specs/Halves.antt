-- The halves of a table that is split by the names of queues.
use Rattle.std.specs.Prelude.{◌≡◌, ℕ, Bool, true, false, List, filter, Some}
use Rattle.std.specs.FinMap as finite
use Rattle.spool_types.specs.Phases.{has_ended}
use Rattle.spool_types.specs.State.{State, Job, job_at}
use Rattle.spool_types.specs.declared.rows.QueueRow.{QueueRow}
use Rattle.spool_types.specs.declared.version.Version.TheVariants.{Two}
use Rattle.split_rows.specs.Half.{takes}
use Rattle.job_table.specs.Over.{is_over}
use Rattle.spool_core.specs.Image.{HasDocument, HasTable}

-- The second table has exactly the rows of the first that are in the half, in the newest version. Its highest number and its
-- moment are those of the whole.
pub record IsHalf (named : Bool) (names : List (List ℕ)) (s t : State) : Type 0 where
  pub queues : finite.values t.queues ≡ filter (λ (q : QueueRow). takes named names q.name) (finite.values s.queues)
  pub jobs : finite.values t.jobs ≡ filter (λ (r : Job). takes named names r.queue) (finite.values s.jobs)
  pub highest : t.highest ≡ s.highest
  pub moment : t.moment ≡ s.moment
  pub version : t.version ≡ Two

-- The image has the table of a half.
pub record HasHalf (named : Bool) (names : List (List ℕ)) (s : State) (image : List ℕ) : Type 0 where
  pub half : State
  pub found : HasTable half image
  pub rows : IsHalf named names s half

-- Each job of the half that has not ended has the same document in the image as in the bytes.
abbrev pub KeepsDocuments : Bool → List (List ℕ) → State → List ℕ → List ℕ → Type 0
KeepsDocuments named names s bytes image =
    (j : ℕ) (row : Job) (document : List ℕ) → job_at s j ≡ Some row → takes named names row.queue ≡ true → has_ended row.phase ≡ false
    → HasDocument j document bytes → HasDocument j document image

-- A job that has not ended has the same document in both.
abbrev pub IsSameDocument : State → State → List ℕ → List ℕ → ℕ → Type 0
IsSameDocument s t bytes image j =
    is_over s j ≡ false → is_over t j ≡ false → (d e : List ℕ) → HasDocument j d bytes → HasDocument j e image → e ≡ d
