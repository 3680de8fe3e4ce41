-- The state of a job and the reasons for it.
use Rattle.std.specs.Prelude.{◌≡◌, ℕ, cond, nat_eq, nat_lt, List, [], ◌∷◌, codes, Option, Some, find}
use Rattle.std.specs.Cmp.Lexicographic.{pointwise}
use Rattle.ipp_names.specs.IppJobStates.{job_state_number}
use Rattle.ipp_names.specs.declared.job_states.JobState.{JobState}
use Rattle.ipp_names.specs.declared.job_states.JobState.TheVariants as states
use Rattle.spool_types.specs.Phases.{is_in_force, job_reason, job_state}
use Rattle.spool_types.specs.declared.phase.AbortReason.{AbortReason}
use Rattle.spool_types.specs.declared.phase.AbortReason.TheVariants as aborts
use Rattle.spool_types.specs.declared.phase.Hold.{Hold}
use Rattle.spool_types.specs.declared.phase.Hold.TheVariants as holds
use Rattle.spool_types.specs.declared.phase.HoldReason.TheVariants as hold_reasons
use Rattle.spool_types.specs.declared.phase.Phase.{Phase}
use Rattle.spool_types.specs.declared.phase.Phase.TheVariants as phases
use Rattle.ipp_answers.specs.declared.states.JobReason.{JobReason}
use Rattle.ipp_answers.specs.declared.states.JobReason.TheVariants.{Waiting, RetryLater, Incoming, Held, HeldForAuthentication, HeldByBackend, Printing, Completed, Canceled, FilterFailed, BackendFailed, RetryLimit, AttemptLost, NoFilter}

-- The word by which the service shows the reason.
abbrev pub reason_word : JobReason → List ℕ
reason_word Waiting = codes "none"
reason_word RetryLater = codes "retry-later"
reason_word Incoming = codes "job-incoming"
reason_word Held = codes "job-hold-until-specified"
reason_word HeldForAuthentication = codes "cups-held-for-authentication"
reason_word HeldByBackend = codes "held-by-backend"
reason_word Printing = codes "job-printing"
reason_word Completed = codes "job-completed-successfully"
reason_word Canceled = codes "canceled"
reason_word FilterFailed = codes "filter-failed"
reason_word BackendFailed = codes "backend-failed"
reason_word RetryLimit = codes "retry-limit"
reason_word AttemptLost = codes "attempt-lost"
reason_word NoFilter = codes "no-filter"

abbrev pub all_reasons : List JobReason
all_reasons = Waiting ∷ RetryLater ∷ Incoming ∷ Held ∷ HeldForAuthentication ∷ HeldByBackend ∷ Printing ∷ Completed ∷ Canceled ∷ FilterFailed ∷ BackendFailed ∷ RetryLimit ∷ AttemptLost ∷ NoFilter ∷ []

abbrev pub reason_called : List ℕ → Option JobReason
reason_called word = find (λ reason. pointwise nat_eq (reason_word reason) word) all_reasons

-- job-state (RFC 8011, 5.3.7).
abbrev pub state_by : JobReason → JobState
state_by Waiting = states.Pending
state_by RetryLater = states.Pending
state_by Incoming = states.PendingHeld
state_by Held = states.PendingHeld
state_by HeldForAuthentication = states.PendingHeld
state_by HeldByBackend = states.PendingHeld
state_by Printing = states.Processing
state_by Completed = states.Completed
state_by Canceled = states.Canceled
state_by FilterFailed = states.Aborted
state_by BackendFailed = states.Aborted
state_by RetryLimit = states.Aborted
state_by AttemptLost = states.Aborted
state_by NoFilter = states.Aborted

-- job-state-reasons (RFC 8011, 5.3.8; `cups-held-for-authentication` is a keyword of CUPS). Nobody knows whether the owner, an operator,
-- a device or a deadline canceled a job, so no keyword says it.
abbrev pub state_reasons : JobReason → List (List ℕ)
state_reasons Waiting = codes "none" ∷ []
state_reasons RetryLater = codes "job-queued" ∷ []
state_reasons Incoming = codes "job-incoming" ∷ codes "job-data-insufficient" ∷ []
state_reasons Held = codes "job-hold-until-specified" ∷ []
state_reasons HeldForAuthentication = codes "cups-held-for-authentication" ∷ []
state_reasons HeldByBackend = codes "job-hold-until-specified" ∷ []
state_reasons Printing = codes "job-printing" ∷ []
state_reasons Completed = codes "job-completed-successfully" ∷ []
state_reasons Canceled = codes "none" ∷ []
state_reasons FilterFailed = codes "aborted-by-system" ∷ []
state_reasons BackendFailed = codes "aborted-by-system" ∷ []
state_reasons RetryLimit = codes "aborted-by-system" ∷ []
state_reasons AttemptLost = codes "aborted-by-system" ∷ []
state_reasons NoFilter = codes "aborted-by-system" ∷ codes "unsupported-document-format" ∷ []

-- ## The phases of the spooler

-- The reason for which a job with a hold that is in force waits.
abbrev pub held_by : Hold → JobReason
held_by holds.Free = Waiting
held_by (holds.Indefinite hold_reasons.Unspecified) = Held
held_by (holds.Indefinite hold_reasons.Authentication) = HeldForAuthentication
held_by (holds.Indefinite hold_reasons.Backend) = HeldByBackend
held_by (holds.Until moment) = Held

abbrev pub aborted_by : AbortReason → JobReason
aborted_by aborts.FilterFailed = FilterFailed
aborted_by aborts.BackendFailed = BackendFailed
aborted_by aborts.RetryLimit = RetryLimit
aborted_by aborts.AttemptLost = AttemptLost
aborted_by aborts.NoFilter = NoFilter

abbrev pub reason_in : ℕ → Phase → JobReason
reason_in now (phases.Incoming hold) = Incoming
reason_in now (phases.Waiting hold not_before first) = cond (is_in_force now hold) (held_by hold) (cond (nat_lt now not_before) RetryLater Waiting)
reason_in now (phases.Processing attempt stage stages) = Printing
reason_in now phases.Completed = Completed
reason_in now phases.Canceled = Canceled
reason_in now (phases.Aborted reason) = aborted_by reason

-- The reason that the service shows for a phase is that of the word, and the state that follows from it is that which the service shows.
pub record IsReasonIn (now : ℕ) (phase : Phase) : Type 0 where
  pub word : reason_word (reason_in now phase) ≡ job_reason now phase
  pub state : job_state_number (state_by (reason_in now phase)) ≡ job_state now phase

-- Each reason is read back from its word, and the service shows one for each phase.
pub record AreReasons : Type 0 where
  pub read_back : (reason : JobReason) → reason_called (reason_word reason) ≡ Some reason
  pub shown : (now : ℕ) (phase : Phase) → IsReasonIn now phase
