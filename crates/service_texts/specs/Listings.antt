-- A piece of the listing of jobs.
use Rattle.std.specs.Prelude.{ℕ, ◌-◌, Bool, true, false, ◌&&◌, ◌||◌, ◌==◌, cond, nat_eq, nat_le, List, [], ◌∷◌, ◌++◌, codes, length, filter, Option, None, Some}
use Rattle.std.specs.Cmp.Lexicographic.{pointwise}
use Rattle.std.specs.Fmt.{decimal}
use Rattle.std.specs.FinMap as finite
use Rattle.std.specs.List.{flat_map}
use Rattle.client_standing.specs.ClientStanding.{ClientStanding}
use Rattle.command_lines.specs.Replies.{counted_line}
use Rattle.event_records.specs.declared.seen.JobTimes.{JobTimes}
use Rattle.spool_types.specs.Phases.{job_state}
use Rattle.spool_types.specs.State.{State, Job}
use Rattle.service_texts.specs.Selections.{from_of, most_of}
use Rattle.service_texts.specs.Shown.{hides, job_fields, seen}
use Rattle.service_texts.specs.declared.selection.Selection.{Selection}

-- ## The selected jobs

abbrev pub is_text : Option (List ℕ) → List ℕ → Bool
is_text None text = true
is_text (Some wanted) text = pointwise nat_eq text wanted

abbrev pub is_number : Option ℕ → ℕ → Bool
is_number None number = true
is_number (Some wanted) number = number == wanted

-- The job matches each key that was given.
abbrev pub is_match : Selection → ℕ → Job → Bool
is_match selection now r = is_text selection.queue r.queue && (is_number selection.state (job_state now r.phase) && is_text selection.user r.user)

-- The job matches as the client sees it. So a client cannot find out the user of a job that is not shown to it.
abbrev pub is_selected : ClientStanding → Selection → ℕ → Job → Bool
is_selected c selection now r = is_match selection now (seen (hides c r) r)

-- The jobs from a number on.
abbrev pub jobs_from : ℕ → List Job → List Job
jobs_from number jobs = filter (λ (r : Job). nat_le number r.id) jobs

-- ## A piece of them

-- The maximum number of jobs that are examined for a piece.
abbrev pub most_examined : ℕ
most_examined = 1000

-- The jobs of a piece, and the number of the job that comes next, if any.
pub record Piece : Type 0 where
  pub jobs : List Job
  pub next : Option ℕ

abbrev pub with_first : Bool → Job → Piece → Piece
with_first passes r piece = cond passes (record piece { jobs = r ∷ piece.jobs }) piece

-- How many jobs the piece may still have.
abbrev pub fewer : Bool → ℕ → ℕ
fewer passes most = cond passes (most - 1) most

-- The next job, if neither the piece is full nor enough jobs were examined.
abbrev pub piece_of : (Job → Bool) → ℕ → ℕ → List Job → Piece
piece_of passes most left [] = record { jobs = []; next = None }
piece_of passes most left (r ∷ rs) =
    cond (nat_eq most 0 || nat_eq left 0)
    (record { jobs = []; next = Some r.id })
    (with_first (passes r) r (piece_of passes (fewer (passes r) most) (left - 1) rs))

-- The piece that is selected.
abbrev pub listed : ClientStanding → Selection → State → Piece
listed c selection s = piece_of (is_selected c selection s.moment) (most_of selection) most_examined (jobs_from (from_of selection) (finite.values s.jobs))

-- The jobs of the listing that follow a piece.
abbrev pub following : Option ℕ → List Job → List Job
following None jobs = []
following (Some number) jobs = jobs_from number jobs

-- ## One job

abbrev pub is_row_selected : ClientStanding → Selection → ℕ → Option Job → Bool
is_row_selected c selection now None = false
is_row_selected c selection now (Some r) = is_selected c selection now r

abbrev pub row_fields : ClientStanding → JobTimes → Selection → ℕ → Option Job → List ℕ
row_fields c t selection now None = []
row_fields c t selection now (Some r) = cond (is_selected c selection now r) (job_fields now (hides c r) t r) []

-- ## Its text

-- The number of jobs, and the number of the next one, if any.
abbrev pub piece_line : ℕ → Option ℕ → List ℕ
piece_line count None = counted_line count
piece_line count (Some number) = codes "ok " ++ decimal count ++ codes " more " ++ decimal number ++ codes "\n"

abbrev pub listed_fields : ClientStanding → (ℕ → JobTimes) → ℕ → List Job → List ℕ
listed_fields c times now jobs = flat_map (λ (r : Job). job_fields now (hides c r) (times r.id) r) jobs

abbrev pub piece_text : ClientStanding → (ℕ → JobTimes) → ℕ → Piece → List ℕ
piece_text c times now piece = listed_fields c times now piece.jobs ++ piece_line (length piece.jobs) piece.next

abbrev pub listed_text : ClientStanding → (ℕ → JobTimes) → Selection → State → List ℕ
listed_text c times selection s = piece_text c times s.moment (listed c selection s)
