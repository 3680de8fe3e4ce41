-- When a later moment of the clock changes something, and the jobs that have ended. Moments are in seconds.
use Rattle.std.specs.Prelude.{◌≡◌, ℕ, ◌+◌, ◌<◌, ◌≤◌, min, Bool, true, false, not, ◌&&◌, ◌||◌, cond, nat_lt, nat_le, List, [], ◌∷◌, Option, None, Some, IfSome}
use Rattle.std.specs.FinMap as finite
use Rattle.std.specs.List.{Contains, filter_map, slice_get}
use Rattle.spool_types.specs.declared.phase.Phase.{Phase}
use Rattle.spool_types.specs.declared.phase.Phase.TheVariants.{Incoming, Waiting, Processing}
use Rattle.spool_types.specs.declared.phase.Hold.{Hold}
use Rattle.spool_types.specs.declared.phase.Hold.TheVariants.{Until}
use Rattle.spool_types.specs.declared.rows.QueueRow.{QueueRow}
use Rattle.spool_types.specs.Limits.{greatest_moment}
use Rattle.spool_types.specs.Phases.{has_ended, is_in_force}
use Rattle.spool_types.specs.State.{State, Job, queue_at, job_at}
use Rattle.queue_sched.specs.declared.deadlines.Deadline.{Deadline}

-- ## When something falls due

-- The earlier of two moments, if there is one.
abbrev pub earlier : Option ℕ → Option ℕ → Option ℕ
earlier None moment = moment
earlier (Some a) None = Some a
earlier (Some a) (Some b) = Some (min a b)

-- The next moment, if it exists.
abbrev pub next_moment : ℕ → Option ℕ
next_moment moment = cond (nat_le (moment + 1) greatest_moment) (Some (moment + 1)) None

-- The first moment when a job with this latest start is late.
abbrev pub late_from : Option ℕ → Option ℕ
late_from None = None
late_from (Some by) = next_moment by

-- The end of a hold that is in force until a moment.
abbrev pub end_of_hold : Hold → ℕ → Option ℕ
end_of_hold (Until until) known = cond (nat_lt known until) (Some until) None
end_of_hold hold known = None

-- A queue that does not exist starts nothing.
abbrev pub is_stopped_row : Option QueueRow → Bool
is_stopped_row None = true
is_stopped_row (Some q) = q.stopped

-- The queue of a job starts none of its jobs.
abbrev pub is_stopped : State → Job → Bool
is_stopped s r = is_stopped_row (queue_at s r.queue)

-- A waiting job is due at its retry, if that is in the future. If nothing holds it back, it is due at once.
abbrev pub start_of : State → Job → Hold → ℕ → Option ℕ
start_of s r hold not_before =
    cond (nat_lt s.moment not_before) (Some not_before)
    (cond (is_in_force s.moment hold || is_stopped s r) None (next_moment s.moment))

-- The least moment that changes something about a job in this phase if the clock reaches it. For a job that is processing, or that starts
-- once its queue is free, this is the next moment, because the time until a retry counts from the moment that the table knows.
abbrev pub due_in : State → Job → Phase → Option ℕ
due_in s r (Incoming hold) = end_of_hold hold s.moment
due_in s r (Waiting hold not_before first) = earlier (earlier (late_from r.by) (end_of_hold hold s.moment)) (start_of s r hold not_before)
due_in s r (Processing attempt stage stages) = next_moment s.moment
due_in s r phase = None

-- A job in this phase is due at the next moment, because it is processing or nothing but its queue holds it back.
abbrev pub is_at_once_in : State → Job → Phase → Bool
is_at_once_in s r (Waiting hold not_before first) = not (nat_lt s.moment not_before) && not (is_in_force s.moment hold || is_stopped s r)
is_at_once_in s r (Processing attempt stage stages) = true
is_at_once_in s r phase = false

abbrev pub is_at_once : State → Job → Bool
is_at_once s r = is_at_once_in s r r.phase

-- The due moment of a job.
abbrev pub due_of : State → Job → Option ℕ
due_of s r = due_in s r r.phase

-- The least of this moment and the due moments of these jobs.
abbrev pub due_among : State → Option ℕ → List Job → Option ℕ
due_among s due [] = due
due_among s due (r ∷ rs) = due_among s (earlier due (due_of s r)) rs

-- The least due moment of all jobs.
abbrev pub next_due : State → Option ℕ
next_due s = due_among s None (finite.values s.jobs)

-- ## What a Clock changes

abbrev pub has_come : Option ℕ → ℕ → Bool
has_come None m = false
has_come (Some due) m = nat_le due m

-- A Clock of a moment changes how a job is shown, or cancels it.
abbrev pub is_changed_in : Job → Phase → ℕ → ℕ → Bool
is_changed_in r (Incoming hold) known m = has_come (end_of_hold hold known) m
is_changed_in r (Waiting hold not_before first) known m = has_come (end_of_hold hold known) m || has_come (late_from r.by) m
is_changed_in r phase known m = false

abbrev pub is_changed_by : Job → ℕ → ℕ → Bool
is_changed_by r known m = is_changed_in r r.phase known m

-- The job of this number is one that a Clock of a moment changes so.
abbrev pub IsChangedJob : State → ℕ → ℕ → Type 0
IsChangedJob s m j = (r : Job) × (job_at s j ≡ Some r) × (is_changed_by r s.moment m ≡ true)

-- ## Jobs that have ended

abbrev pub ended_number : Job → Option ℕ
ended_number r = cond (has_ended r.phase) (Some r.id) None

-- The numbers of the jobs that have ended, in ascending order.
abbrev pub ended_numbers : State → List ℕ
ended_numbers s = filter_map ended_number (finite.values s.jobs)

-- ## The least of some dates

-- The earliest date that is of this kind, if there is one.
pub record IsLeastOf (P : Deadline → Type 0) (items : List Deadline) (found : Option ℕ) : Type 0 where
  pub there : IfSome found (λ by. (d : Deadline) × Contains items d × P d × (d.by ≡ by))
  pub least : (d : Deadline) → Contains items d → P d → (by : ℕ) × (found ≡ Some by) × (by ≤ d.by)

-- The number of the date at a position.
abbrev pub IsNumberAt : List Deadline → ℕ → ℕ → Type 0
IsNumberAt items i j = (d : Deadline) × (slice_get items i ≡ Some d) × (d.id ≡ j)

-- The number of a date at a position from `first` up to `last`.
abbrev pub IsNumberWithin : List Deadline → ℕ → ℕ → ℕ → Type 0
IsNumberWithin items first last j = (i : ℕ) × (first ≤ i) × (i < last) × IsNumberAt items i j
