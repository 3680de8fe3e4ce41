-- The submission of a request, which goes on by the events of `ipp_submission` alone.
use Rattle.std.specs.Prelude.{◌≡◌, ◌⊎◌, ℕ, Bool, true, ◌&&◌, cond, Option, None, Some}
use Rattle.ipp_submission.specs.JobParts.{Progress, closes_with_last, finished, is_ready, lost_in, supplied_in, supplied_last_in, with_document}
use Rattle.ipp_tasks.specs.declared.tasks.Task.{Task}
use Rattle.ipp_tasks.specs.declared.tasks.Work.{Work}
use Rattle.ipp_tasks.specs.declared.tasks.Work.TheVariants.{New, Printing}

abbrev pub progress_by : Work → Option Progress
progress_by (New new) = Some new.job.submission
progress_by (Printing s) = Some s.job.submission
progress_by work = None

abbrev pub progress_of : Task → Option Progress
progress_of task = progress_by task.work

-- Each submission goes on so.
abbrev pub GoesBy : (Progress → Progress → Type 0) → Option Progress → Option Progress → Type 0
GoesBy Goes None new = Unit {0}
GoesBy Goes (Some old) None = ⊥
GoesBy Goes (Some old) (Some new) = Goes old new

-- A piece has come. The job is closed with it if `is_last` states that the last document ends with it, and if that can be.
abbrev pub supplied_by : Bool → Progress → ℕ → Progress
supplied_by is_last p count = cond (is_last && closes_with_last p) (supplied_last_in p count) (supplied_in p count)

-- A piece or a further document has come, or the last document has ended.
abbrev pub TakesSome : Progress → Progress → Type 0
TakesSome old new =
    (new ≡ old)
    ⊎ ((is_ready old ≡ true)
    × ((new ≡ with_document old) ⊎ (((is_last : Bool) × ((count : ℕ) × (new ≡ supplied_by is_last old count))) ⊎ (new ≡ finished old))))

-- The connection to the service was lost before the reply.
abbrev pub LosesSome : Progress → Progress → Type 0
LosesSome old new = (new ≡ old) ⊎ (new ≡ lost_in old)
