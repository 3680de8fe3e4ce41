-- The states of jobs.
use Rattle.std.specs.Prelude.{ℕ, ◌==◌, List, [], ◌∷◌, codes, Option}
use Rattle.std.specs.List.{find}
use Rattle.ipp_names.specs.declared.job_states.JobState.{JobState}
use Rattle.ipp_names.specs.declared.job_states.JobState.TheVariants.{Pending, PendingHeld, Processing, ProcessingStopped, Canceled, Aborted, Completed}

-- A state of a job, with its number (RFC 8011 5.3.7).
abbrev pub job_state_number : JobState → ℕ
job_state_number Pending = 3
job_state_number PendingHeld = 4
job_state_number Processing = 5
job_state_number ProcessingStopped = 6
job_state_number Canceled = 7
job_state_number Aborted = 8
job_state_number Completed = 9

abbrev pub job_states : List JobState
job_states = Pending ∷ PendingHeld ∷ Processing ∷ ProcessingStopped ∷ Canceled ∷ Aborted ∷ Completed ∷ []

abbrev pub job_state_of : ℕ → Option JobState
job_state_of number = find (λ found. job_state_number found == number) job_states

abbrev pub job_state_keyword : JobState → List ℕ
job_state_keyword Pending = codes "pending"
job_state_keyword PendingHeld = codes "pending-held"
job_state_keyword Processing = codes "processing"
job_state_keyword ProcessingStopped = codes "processing-stopped"
job_state_keyword Canceled = codes "canceled"
job_state_keyword Aborted = codes "aborted"
job_state_keyword Completed = codes "completed"
