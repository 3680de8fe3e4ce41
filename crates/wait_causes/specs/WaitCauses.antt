-- Why a job does not print: a table with one row for each cause. The first cause that applies is shown: those of the job, then those of its
-- queue, then those of the service.
use Rattle.std.specs.Prelude.{◌≡◌, ℕ, Bool, true, false, cond, nat_lt, ◌==◌, List, [], ◌∷◌, ◌++◌, codes, length, map, take, Option, None, Some}
use Rattle.std.specs.FinMap as finite
use Rattle.std.specs.Fmt.{decimal}
use Rattle.job_table.specs.Attempts.{busy_of, next_of}
use Rattle.queue_sched.specs.WaitingIndex.{InOrder, IsIndexOf}
use Rattle.queue_sched.specs.declared.entry.Entry.{Entry}
use Rattle.spool_types.specs.Phases.{is_in_force}
use Rattle.spool_types.specs.State.{State, Job, job_at, queue_at}
use Rattle.spool_types.specs.declared.phase.Hold.{Hold}
use Rattle.spool_types.specs.declared.phase.Hold.TheVariants.{Free, Indefinite, Until}
use Rattle.spool_types.specs.declared.phase.Phase.{Phase}
use Rattle.spool_types.specs.declared.phase.Phase.TheVariants as phases
use Rattle.spool_types.specs.declared.rows.QueueRow.{QueueRow}
use Rattle.wait_causes.specs.declared.cause.Cause.{Cause}
use Rattle.wait_causes.specs.declared.cause.Cause.TheVariants.{Ended, Arriving, Abandoned, Held, HeldUntil, Retry, Stopped, Taken, Behind, Full, Children, Next, Prints}
use Rattle.wait_causes.specs.declared.cause.ServiceFacts.{ServiceFacts}

-- ## The causes

-- Its queue is stopped.
abbrev pub is_stopped_row : Option QueueRow → Bool
is_stopped_row None = false
is_stopped_row (Some q) = q.stopped

-- A hold that is in force.
abbrev pub held_cause : Hold → Cause
held_cause Free = Held
held_cause (Indefinite reason) = Held
held_cause (Until moment) = HeldUntil moment

-- The service starts the next stage as soon as it can.
abbrev pub service_cause : ServiceFacts → Cause
service_cause f = cond f.has_place (cond f.is_full Full Next) Children

-- No job of the queue is processing. Another job may be started first.
abbrev pub order_cause : ServiceFacts → ℕ → Option ℕ → Cause
order_cause f job None = service_cause f
order_cause f job (Some first) = cond (first == job) (service_cause f) (Behind first)

-- A job of the queue is processing, or none is.
abbrev pub queue_cause : ServiceFacts → ℕ → Option ℕ → Option ℕ → Cause
queue_cause f job None next = order_cause f job next
queue_cause f job (Some taken) next = Taken taken

-- A waiting job.
abbrev pub waiting_cause : ServiceFacts → State → Job → Hold → ℕ → Cause
waiting_cause f s r hold not_before =
    cond (is_in_force s.moment hold) (held_cause hold)
    (cond (nat_lt s.moment not_before) (Retry not_before)
    (cond (is_stopped_row (queue_at s r.queue)) Stopped
    (queue_cause f r.id (busy_of s r.queue) (next_of s r.queue))))

abbrev pub phase_cause : ServiceFacts → State → Job → Phase → Cause
phase_cause f s r (phases.Incoming hold) = cond f.left Abandoned Arriving
phase_cause f s r (phases.Waiting hold not_before first) = waiting_cause f s r hold not_before
phase_cause f s r (phases.Processing attempt stage stages) = cond f.runs Prints (service_cause f)
phase_cause f s r phases.Completed = Ended
phase_cause f s r phases.Canceled = Ended
phase_cause f s r (phases.Aborted reason) = Ended

-- The cause of a job of the table, by what the service knows of it.
abbrev pub cause_of : ServiceFacts → State → Job → Cause
cause_of f s r = phase_cause f s r r.phase

-- It waits for the service alone.
abbrev pub waits_for_service : Cause → Bool
waits_for_service Children = true
waits_for_service Full = true
waits_for_service Next = true
waits_for_service cause = false

-- ## The jobs before it

-- The maximum number of waiting jobs that are counted.
abbrev pub most_counted : ℕ
most_counted = 1000

-- The jobs before this one.
abbrev pub before : ℕ → List ℕ → List ℕ
before job [] = []
before job (other ∷ jobs) = cond (other == job) [] (other ∷ before job jobs)

-- How many of the first 1,000 waiting jobs of the queue, in the order in which they are printed, are before the job.
pub record IsAhead (s : State) (name : List ℕ) (job count : ℕ) : Type 0 where
  pub entries : List Entry
  pub index : IsIndexOf (finite.values s.jobs) name entries
  pub order : InOrder entries
  pub count_is : count ≡ length (before job (take most_counted (map (λ e. e.id) entries)))

-- A job of a table has a queue. If it had none, no job would be before it.
abbrev pub IsAheadBy : State → List ℕ → ℕ → Option QueueRow → ℕ → Type 0
IsAheadBy s name job None count = count ≡ 0
IsAheadBy s name job (Some q) count = IsAhead s name job count

-- ## The reply

abbrev pub ahead_words : ℕ → List ℕ
ahead_words count = codes " ahead " ++ decimal count

abbrev pub cause_words : Cause → ℕ → List ℕ
cause_words Ended count = codes "ended"
cause_words Arriving count = codes "arriving"
cause_words Abandoned count = codes "abandoned"
cause_words Held count = codes "held"
cause_words (HeldUntil moment) count = codes "held-until " ++ decimal moment
cause_words (Retry moment) count = codes "retry " ++ decimal moment
cause_words Stopped count = codes "stopped"
cause_words (Taken job) count = codes "taken " ++ decimal job ++ ahead_words count
cause_words (Behind job) count = codes "behind " ++ decimal job ++ ahead_words count
cause_words Full count = codes "full"
cause_words Children count = codes "children"
cause_words Next count = codes "next"
cause_words Prints count = codes "prints"

abbrev pub why_line : Cause → ℕ → List ℕ
why_line cause count = codes "ok why " ++ cause_words cause count ++ codes "\n"

abbrev pub IsWhyOf : ServiceFacts → State → Option Job → List ℕ → Type 0
IsWhyOf f s None text = text ≡ codes "error job\n"
IsWhyOf f s (Some r) text = (count : ℕ) × IsAheadBy s r.queue r.id (queue_at s r.queue) count × (text ≡ why_line (cause_of f s r) count)

-- The reply about the job of this number.
abbrev pub IsWhy : ServiceFacts → State → ℕ → List ℕ → Type 0
IsWhy f s job text = IsWhyOf f s (job_at s job) text
