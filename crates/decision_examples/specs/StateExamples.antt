-- Examples of the states, reasons and words of phases, policies, refusals and warnings, and of busy queues.
use Rattle.std.specs.Prelude.{◌≡◌, true, false, List, [], ◌∷◌, map, codes, None, Some}
use Rattle.spool_types.specs.declared.phase.Phase.{Phase}
use Rattle.spool_types.specs.declared.phase.Phase.TheVariants.{Incoming, Waiting, Canceled, Aborted}
use Rattle.spool_types.specs.declared.phase.Hold.TheVariants.{Free, Indefinite, Until}
use Rattle.spool_types.specs.declared.phase.HoldReason.TheVariants.{Unspecified, Backend}
use Rattle.spool_types.specs.declared.phase.AbortReason.TheVariants.{NoFilter}
use Rattle.spool_types.specs.declared.phase.Policy.TheVariants.{AbortJob, RetryJob, RetryCurrentJob, StopPrinter}
use Rattle.spool_types.specs.declared.refusal.Refusal.TheVariants.{NoQueue, TooLong, JobEnded, NeedsCheckpoint}
use Rattle.spool_types.specs.declared.warning.WarningKind.TheVariants.{UnknownRule, BadLine}
use Rattle.spool_types.specs.Phases.{job_state, job_reason, with_hold, hold_until, policy_word}
use Rattle.spool_types.specs.Refusals.{refusal_number, refusal_name}
use Rattle.spool_types.specs.Warnings.{warning_name}
use Rattle.spool_types.specs.Busy.{is_busy}
use Rattle.decision_examples.specs.Samples.{job, lab, processing}

-- Phases as shown at the moment 100.
abbrev pub phases : List Phase
phases = Incoming (Indefinite Unspecified)
    ∷ Waiting Free 100 false
    ∷ Waiting Free 101 false
    ∷ Waiting (Until 100) 100 false
    ∷ Waiting (Until 101) 100 false
    ∷ Waiting (Indefinite Backend) 100 false
    ∷ Aborted NoFilter
    ∷ []

abbrev pub StateRows : Type 0
StateRows = map (job_state 100) phases ≡ 4 ∷ 3 ∷ 3 ∷ 3 ∷ 4 ∷ 4 ∷ 8 ∷ []

abbrev pub ReasonWordRows : Type 0
ReasonWordRows = map (job_reason 100) phases
    ≡ codes "job-incoming" ∷ codes "none" ∷ codes "retry-later" ∷ codes "none" ∷ codes "job-hold-until-specified" ∷ codes "held-by-backend" ∷ codes "no-filter" ∷ []

abbrev pub HoldRows : Type 0
HoldRows = hold_until (Some 100) ∷ hold_until None ∷ [] ≡ Until 100 ∷ Indefinite Unspecified ∷ []

-- A hold is set if the phase has one.
abbrev pub HeldRows : Type 0
HeldRows = map (with_hold (Until 100)) (Incoming Free ∷ Waiting Free 100 true ∷ Canceled ∷ []) ≡ Incoming (Until 100) ∷ Waiting (Until 100) 100 true ∷ Canceled ∷ []

abbrev pub PolicyWordRows : Type 0
PolicyWordRows = map policy_word (AbortJob ∷ RetryJob ∷ RetryCurrentJob ∷ StopPrinter ∷ [])
    ≡ codes "abort-job" ∷ codes "retry-job" ∷ codes "retry-current-job" ∷ codes "stop-printer" ∷ []

abbrev pub RefusalRows : Type 0
RefusalRows = map refusal_number (NoQueue ∷ JobEnded ∷ NeedsCheckpoint ∷ []) ≡ 1 ∷ 10 ∷ 17 ∷ []

abbrev pub NameRows : Type 0
NameRows = refusal_name TooLong ∷ map warning_name (UnknownRule ∷ BadLine ∷ []) ≡ codes "TooLong" ∷ codes "UnknownRule" ∷ codes "BadLine" ∷ []

-- A queue is busy while one of its jobs is processing.
abbrev pub BusyRows : Type 0
BusyRows = is_busy (job lab 7 50 Canceled ∷ job lab 7 50 processing ∷ []) lab
    ∷ is_busy (job lab 7 50 Canceled ∷ job lab 7 50 processing ∷ []) (codes "hall")
    ∷ is_busy (job lab 7 50 Canceled ∷ []) lab ∷ []
    ≡ true ∷ false ∷ false ∷ []
