-- Which jobs a client asks for.
use Rattle.std.specs.Prelude.{ℕ, Bool, true, false, not, ◌==◌, nat_eq, List, [], ◌∷◌, codes, Option, find}
use Rattle.std.specs.Cmp.Lexicographic.{pointwise}
use Rattle.ipp_names.specs.IppJobStates.{job_state_number}
use Rattle.ipp_names.specs.declared.job_states.JobState.{JobState}
use Rattle.ipp_names.specs.declared.job_states.JobState.TheVariants as states
use Rattle.ipp_answers.specs.declared.which_jobs.WhichJobs.{WhichJobs}
use Rattle.ipp_answers.specs.declared.which_jobs.WhichJobs.TheVariants.{Aborted, All, Canceled, Completed, NotCompleted, Pending, PendingHeld, Processing, ProcessingStopped}

abbrev pub all_choices : List WhichJobs
all_choices = Aborted ∷ All ∷ Canceled ∷ Completed ∷ NotCompleted ∷ Pending ∷ PendingHeld ∷ Processing ∷ ProcessingStopped ∷ []

-- The keyword (RFC 8011, 4.2.6.1; PWG 5100.11 for all but the two).
abbrev pub choice_word : WhichJobs → List ℕ
choice_word Aborted = codes "aborted"
choice_word All = codes "all"
choice_word Canceled = codes "canceled"
choice_word Completed = codes "completed"
choice_word NotCompleted = codes "not-completed"
choice_word Pending = codes "pending"
choice_word PendingHeld = codes "pending-held"
choice_word Processing = codes "processing"
choice_word ProcessingStopped = codes "processing-stopped"

abbrev pub choice_called : List ℕ → Option WhichJobs
choice_called word = find (λ choice. pointwise nat_eq (choice_word choice) word) all_choices

-- The job is canceled, aborted or completed.
abbrev pub has_ended : JobState → Bool
has_ended states.Pending = false
has_ended states.PendingHeld = false
has_ended states.Processing = false
has_ended states.ProcessingStopped = false
has_ended states.Canceled = true
has_ended states.Aborted = true
has_ended states.Completed = true

abbrev pub is_state : JobState → JobState → Bool
is_state wanted state = job_state_number state == job_state_number wanted

abbrev pub takes_state : WhichJobs → JobState → Bool
takes_state Aborted state = is_state states.Aborted state
takes_state All state = true
takes_state Canceled state = is_state states.Canceled state
takes_state Completed state = has_ended state
takes_state NotCompleted state = not (has_ended state)
takes_state Pending state = is_state states.Pending state
takes_state PendingHeld state = is_state states.PendingHeld state
takes_state Processing state = is_state states.Processing state
takes_state ProcessingStopped state = is_state states.ProcessingStopped state
