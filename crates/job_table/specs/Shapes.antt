-- Shapes of change: the effect of an event, and the causes of refusal that all events of the shape share. `Step` has a
-- row for each event.
use Rattle.std.specs.Prelude.{ℕ, Bool, true, false, not, List, ◌∷◌, max, nat_le, Option, None, Some, is_none, is_some}
use Rattle.std.specs.FinMap as map
use Rattle.spool_types.specs.declared.effect.Effect.{Effect}
use Rattle.spool_types.specs.declared.refusal.Refusal.{Refusal}
use Rattle.spool_types.specs.declared.refusal.Refusal.TheVariants.{NoQueue, QueueExists, TooManyQueues, NotAccepting, NoJob, OldNumber, NoNumberLeft, JobEnded, NeedsCheckpoint}
use Rattle.spool_types.specs.declared.rows.QueueRow.{QueueRow}
use Rattle.spool_types.specs.declared.version.Version.{Version}
use Rattle.spool_types.specs.declared.version.Version.TheVariants.{One, Two}
use Rattle.backend_codes.specs.declared.verdicts.Verdict.{Verdict}
use Rattle.spool_types.specs.Limits.{most_queues, greatest_number}
use Rattle.spool_types.specs.Phases.{has_ended}
use Rattle.spool_types.specs.State.{State, Job, queue_at, job_at}
use Rattle.job_table.specs.Attempts.{with_effects, rule_at, reopened}
use Rattle.job_table.specs.EventChanges.{change_queue, change_job, at_clock}

-- A new queue, a change of a queue, a new job, a change of a job, a verdict on a job and its queue (after the effects
-- of a stage, if any), the removal of a job, a new moment, or the policy on every processing job.
pub data Change : Type 0 where
  NewQueueRow : QueueRow → Change
  OfQueue : List ℕ → (QueueRow → QueueRow) → Change
  NewJobRow : Job → Change
  OfJob : ℕ → (Job → Job) → Change
  OfBoth : ℕ → Option (List Effect) → (Job → QueueRow → Verdict) → Change
  WithoutJob : ℕ → Change
  OfClock : ℕ → Change
  OfAll : Change

-- The table after the effects, if any.
abbrev pub told : State → ℕ → Option (List Effect) → State
told s j None = s
told s j (Some effects) = with_effects s j effects

-- The table after the change.
abbrev pub made : State → Change → State
made s (NewQueueRow q) = record s { queues = map.insert s.queues q.name q }
made s (OfQueue name f) = change_queue s name f
made s (NewJobRow r) = record s { jobs = map.insert s.jobs r.id r; highest = r.id }
made s (OfJob j f) = change_job s j f
made s (OfBoth j effects verdict) = rule_at (told s j effects) j verdict
-- The highest number is unchanged.
made s (WithoutJob j) = record s { jobs = map.remove s.jobs j }
made s (OfClock m) = at_clock (max s.moment m) s
made s OfAll = reopened s

-- ## The subject of a change

-- The job of the change, if the event requires a job that exists and has not ended.
abbrev pub subject_of : Change → Option ℕ
subject_of (OfJob j f) = Some j
subject_of (OfBoth j effects verdict) = Some j
subject_of change = None

-- The change is about an existing job or queue.
abbrev pub IsOfOne : Change → Type 0
IsOfOne (OfQueue name f) = Unit {0}
IsOfOne (OfJob j f) = Unit {0}
IsOfOne (OfBoth j effects verdict) = Unit {0}
IsOfOne (WithoutJob j) = Unit {0}
IsOfOne change = ⊥

-- ## Causes of refusal

-- The value exists and passes the test.
abbrev pub passes : {X : Type 0} → (X → Bool) → Option X → Bool
passes p None = false
passes p (Some x) = p x

-- A cause that applies if the row exists and passes the test.
abbrev pub where_it : {X : Type 0} → Option X → (X → Bool) → Refusal → Bool × Refusal
where_it found p refusal = (passes p found, refusal)

-- The causes of refusal of a change of a queue, followed by further causes.
abbrev pub about_queue : State → List ℕ → List (Bool × Refusal) → List (Bool × Refusal)
about_queue s name more =
    (is_none (queue_at s name), NoQueue)
    ∷ more

-- The causes of refusal of a change of a job, followed by further causes.
abbrev pub about_job : State → ℕ → List (Bool × Refusal) → List (Bool × Refusal)
about_job s j more =
    (is_none (job_at s j), NoJob)
    ∷ where_it (job_at s j) (λ r. has_ended r.phase) JobEnded
    ∷ more

-- The first version has no jobs that must start by a moment.
abbrev pub lacks_by : Version → Option ℕ → Bool
lacks_by version None = false
lacks_by One (Some by) = true
lacks_by Two (Some by) = false

-- The first version has no encoding for a purge.
abbrev pub lacks_purge : Version → Bool
lacks_purge One = true
lacks_purge Two = false

-- The causes of the shape, followed by the event's own.
abbrev pub causes_of : State → Change → List (Bool × Refusal) → List (Bool × Refusal)
causes_of s (NewQueueRow q) own =
    (is_some (queue_at s q.name), QueueExists)
    ∷ (nat_le most_queues (map.len s.queues), TooManyQueues)
    ∷ own
causes_of s (OfQueue name f) own = about_queue s name own
causes_of s (NewJobRow r) own =
    (lacks_by s.version r.by, NeedsCheckpoint)
    ∷ about_queue s r.queue (
    where_it (queue_at s r.queue) (λ q. not q.accepting) NotAccepting
    ∷ (nat_le greatest_number s.highest, NoNumberLeft)
    ∷ (nat_le r.id s.highest, OldNumber)
    ∷ own)
causes_of s (OfJob j f) own = about_job s j own
causes_of s (OfBoth j effects verdict) own = about_job s j own
causes_of s (WithoutJob j) own =
    (lacks_purge s.version, NeedsCheckpoint)
    ∷ (is_none (job_at s j), NoJob)
    ∷ own
causes_of s (OfClock m) own = own
causes_of s OfAll own = own
