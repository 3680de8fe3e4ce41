-- The states of jobs and queues: their numbers (RFC 8011) and their names.
use Rattle.std.specs.Prelude.{ℕ, Bool, true, false, cond, ◌==◌, nat_eq, List, codes, Option, None, Some}
use Rattle.std.specs.Cmp.Lexicographic.{pointwise}
use Rattle.front_texts.specs.declared.states.JobState.{JobState}
use Rattle.front_texts.specs.declared.states.JobState.TheVariants as jobs
use Rattle.front_texts.specs.declared.states.PrinterState.{PrinterState}
use Rattle.front_texts.specs.declared.states.PrinterState.TheVariants as printers

abbrev pub job_state_in : ℕ → Option JobState
job_state_in n =
    cond (n == 3) (Some jobs.Pending)
    (cond (n == 4) (Some jobs.Held)
    (cond (n == 5) (Some jobs.Processing)
    (cond (n == 6) (Some jobs.Stopped)
    (cond (n == 7) (Some jobs.Canceled)
    (cond (n == 8) (Some jobs.Aborted)
    (cond (n == 9) (Some jobs.Completed)
    None))))))

abbrev pub job_state_number : JobState → ℕ
job_state_number jobs.Pending = 3
job_state_number jobs.Held = 4
job_state_number jobs.Processing = 5
job_state_number jobs.Stopped = 6
job_state_number jobs.Canceled = 7
job_state_number jobs.Aborted = 8
job_state_number jobs.Completed = 9

abbrev pub job_state_word : JobState → List ℕ
job_state_word jobs.Pending = codes "pending"
job_state_word jobs.Held = codes "held"
job_state_word jobs.Processing = codes "processing"
job_state_word jobs.Stopped = codes "stopped"
job_state_word jobs.Canceled = codes "canceled"
job_state_word jobs.Aborted = codes "aborted"
job_state_word jobs.Completed = codes "completed"

-- The job has ended.
abbrev pub is_ended : JobState → Bool
is_ended jobs.Pending = false
is_ended jobs.Held = false
is_ended jobs.Processing = false
is_ended jobs.Stopped = false
is_ended jobs.Canceled = true
is_ended jobs.Aborted = true
is_ended jobs.Completed = true

-- The reason of a job whose document is still incoming.
abbrev pub is_arriving : Option (List ℕ) → Bool
is_arriving None = false
is_arriving (Some reason) = pointwise nat_eq reason (codes "job-incoming")

-- The state for a user.
abbrev pub shown_word : JobState → Option (List ℕ) → List ℕ
shown_word state reason = cond (is_arriving reason) (codes "arriving") (job_state_word state)

abbrev pub printer_state_in : ℕ → Option PrinterState
printer_state_in n =
    cond (n == 3) (Some printers.Idle)
    (cond (n == 4) (Some printers.Processing)
    (cond (n == 5) (Some printers.Stopped)
    None))

abbrev pub printer_state_number : PrinterState → ℕ
printer_state_number printers.Idle = 3
printer_state_number printers.Processing = 4
printer_state_number printers.Stopped = 5

abbrev pub printer_state_word : PrinterState → List ℕ
printer_state_word printers.Idle = codes "idle"
printer_state_word printers.Processing = codes "processing"
printer_state_word printers.Stopped = codes "stopped"

abbrev pub yes_or_no : Bool → List ℕ
yes_or_no is = cond is (codes "yes") (codes "no")
