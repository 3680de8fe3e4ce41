-- Case by case.
use Rattle.std.proofs.Common.{◌≡◌, ℕ, Bool, true, false, Some, cond, refl}
use Rattle.std.specs.Prelude.{codes, nat_lt}
use Rattle.ipp_names.specs.IppJobStates.{job_state_number}
use Rattle.spool_types.specs.declared.phase.AbortReason.TheVariants as aborts
use Rattle.spool_types.specs.declared.phase.Hold.{Hold}
use Rattle.spool_types.specs.declared.phase.Hold.TheVariants as holds
use Rattle.spool_types.specs.declared.phase.HoldReason.TheVariants as hold_reasons
use Rattle.spool_types.specs.declared.phase.Phase.{Phase}
use Rattle.spool_types.specs.declared.phase.Phase.TheVariants as phases
use Rattle.ipp_answers.specs.JobStates.{IsReasonIn, reason_called, reason_word, state_by}
use Rattle.ipp_answers.specs.declared.states.JobReason.{JobReason}
use Rattle.ipp_answers.specs.declared.states.JobReason.TheVariants.{Waiting, RetryLater, Incoming, Held, HeldForAuthentication, HeldByBackend, Printing, Completed, Canceled, FilterFailed, BackendFailed, RetryLimit, AttemptLost, NoFilter}
use Rattle.ipp_answers.proofs.laws.reasons_follow_phases.Goals as goal

read_back : (reason : JobReason) → reason_called (reason_word reason) ≡ Some reason
read_back Waiting = refl
read_back RetryLater = refl
read_back Incoming = refl
read_back Held = refl
read_back HeldForAuthentication = refl
read_back HeldByBackend = refl
read_back Printing = refl
read_back Completed = refl
read_back Canceled = refl
read_back FilterFailed = refl
read_back BackendFailed = refl
read_back RetryLimit = refl
read_back AttemptLost = refl
read_back NoFilter = refl

late_word : (late : Bool) → reason_word (cond late RetryLater Waiting) ≡ cond late (codes "retry-later") (codes "none")
late_word true = refl
late_word false = refl

late_state : (late : Bool) → job_state_number (state_by (cond late RetryLater Waiting)) ≡ 3
late_state true = refl
late_state false = refl

until_word : (held late : Bool) → reason_word (cond held Held (cond late RetryLater Waiting)) ≡ cond held (codes "job-hold-until-specified") (cond late (codes "retry-later") (codes "none"))
until_word true late = refl
until_word false late = late_word late

until_state : (held late : Bool) → job_state_number (state_by (cond held Held (cond late RetryLater Waiting))) ≡ cond held 4 3
until_state true late = refl
until_state false late = late_state late

waiting : (now : ℕ) (hold : Hold) (not_before : ℕ) (first : Bool) → IsReasonIn now (phases.Waiting hold not_before first)
waiting now holds.Free not_before first = record { word = late_word (nat_lt now not_before); state = late_state (nat_lt now not_before) }
waiting now (holds.Indefinite hold_reasons.Unspecified) not_before first = record { word = refl; state = refl }
waiting now (holds.Indefinite hold_reasons.Authentication) not_before first = record { word = refl; state = refl }
waiting now (holds.Indefinite hold_reasons.Backend) not_before first = record { word = refl; state = refl }
waiting now (holds.Until moment) not_before first =
    record { word = until_word (nat_lt now moment) (nat_lt now not_before); state = until_state (nat_lt now moment) (nat_lt now not_before) }

shown : (now : ℕ) (phase : Phase) → IsReasonIn now phase
shown now (phases.Incoming hold) = record { word = refl; state = refl }
shown now (phases.Waiting hold not_before first) = waiting now hold not_before first
shown now (phases.Processing attempt stage stages) = record { word = refl; state = refl }
shown now phases.Completed = record { word = refl; state = refl }
shown now phases.Canceled = record { word = refl; state = refl }
shown now (phases.Aborted aborts.FilterFailed) = record { word = refl; state = refl }
shown now (phases.Aborted aborts.BackendFailed) = record { word = refl; state = refl }
shown now (phases.Aborted aborts.RetryLimit) = record { word = refl; state = refl }
shown now (phases.Aborted aborts.AttemptLost) = record { word = refl; state = refl }
shown now (phases.Aborted aborts.NoFilter) = record { word = refl; state = refl }

pub returns : goal.returns
returns c = record { read_back = read_back; shown = shown }
