-- The replies about one job.
use Rattle.std.specs.Prelude.{ℕ, ◌==◌, Bool, true, false, ◌&&◌, not, cond, nat_le, List, [], ◌++◌, codes, Option, None, Some, is_some}
use Rattle.std.specs.Fmt.{decimal}
use Rattle.std.specs.List.{flat_map}
use Rattle.client_standing.specs.ClientStanding.{ClientStanding, shows}
use Rattle.command_lines.specs.Replies.{quoted, job_line}
use Rattle.event_records.specs.declared.seen.JobTimes.{JobTimes}
use Rattle.spool_types.specs.Phases.{has_ended, hold_of, is_incoming, job_state, job_reason}
use Rattle.spool_types.specs.State.{State, Job, job_at}
use Rattle.spool_types.specs.declared.phase.Hold.{Hold}
use Rattle.spool_types.specs.declared.phase.Hold.TheVariants.{Free, Indefinite, Until}
use Rattle.spool_types.specs.declared.phase.Phase.{Phase}
use Rattle.spool_types.specs.declared.phase.Phase.TheVariants.{Incoming, Waiting, Processing, Completed, Canceled, Aborted}

-- ## A job as a client sees it

-- Its user, its title and its options are not shown to the client.
abbrev pub hides : ClientStanding → Job → Bool
hides c r = not (shows c r)

-- A text of the job, empty if it is hidden.
abbrev pub seen_text : Bool → List ℕ → List ℕ
seen_text hidden text = cond hidden [] text

-- The job without these texts, if they are hidden.
abbrev pub seen : Bool → Job → Job
seen hidden r = record r { user = seen_text hidden r.user; title = seen_text hidden r.title; options = seen_text hidden r.options }

-- Its line of the listing, as the client sees it.
abbrev pub shown_line : ClientStanding → ℕ → Job → List ℕ
shown_line c now r = job_line now (seen (hides c r) r)

abbrev pub shown_lines : ClientStanding → ℕ → List Job → List ℕ
shown_lines c now jobs = flat_map (shown_line c now) jobs

-- ## A job with all its fields, each on a line with its name and its value

-- The fields of the request.
abbrev pub job_names : Job → List ℕ
job_names r = codes "job " ++ decimal r.id ++ codes "\nqueue " ++ r.queue ++ codes "\nuser " ++ quoted r.user ++ codes "\n"

abbrev pub job_wishes : Job → List ℕ
job_wishes r = codes "title " ++ quoted r.title ++ codes "\noptions " ++ quoted r.options ++ codes "\n"

abbrev pub job_ranks : Job → List ℕ
job_ranks r = codes "copies " ++ decimal r.copies ++ codes "\npriority " ++ decimal r.priority ++ codes "\n"

-- The fields of the progress.
abbrev pub job_counts : Job → List ℕ
job_counts r = codes "size " ++ decimal r.size ++ codes "\npages " ++ decimal r.pages ++ codes "\nattempts " ++ decimal r.attempts ++ codes "\n"

-- Its media type, once it is closed.
abbrev pub media_text : Option (List ℕ) → List ℕ
media_text None = []
media_text (Some media) = codes "type " ++ media ++ codes "\n"

-- Its latest start, if any.
abbrev pub by_text : Option ℕ → List ℕ
by_text None = []
by_text (Some by) = codes "by " ++ decimal by ++ codes "\n"

abbrev pub job_marks : Job → List ℕ
job_marks r = media_text r.media ++ by_text r.by

abbrev pub state_text : ℕ → Phase → List ℕ
state_text now phase = codes "state " ++ decimal (job_state now phase) ++ codes "\nreason " ++ job_reason now phase ++ codes "\n"

-- The moment until which it is held, if any.
abbrev pub hold_text : Hold → List ℕ
hold_text Free = []
hold_text (Indefinite reason) = []
hold_text (Until moment) = codes "hold-until " ++ decimal moment ++ codes "\n"

-- The moment of the next attempt, or the running stage.
abbrev pub phase_text : Phase → List ℕ
phase_text (Incoming hold) = []
phase_text (Waiting hold not_before first) = codes "not-before " ++ decimal not_before ++ codes "\n"
phase_text (Processing attempt stage stages) = codes "stage " ++ decimal stage ++ codes " of " ++ decimal stages ++ codes " attempt " ++ decimal attempt ++ codes "\n"
phase_text Completed = []
phase_text Canceled = []
phase_text (Aborted reason) = []

abbrev pub state_and_phase_text : ℕ → Phase → List ℕ
state_and_phase_text now phase = state_text now phase ++ hold_text (hold_of phase) ++ phase_text phase

abbrev pub job_request : Job → List ℕ
job_request r = job_names r ++ job_wishes r ++ job_ranks r

abbrev pub job_progress : ℕ → Job → List ℕ
job_progress now r = job_counts r ++ job_marks r ++ state_and_phase_text now r.phase

-- ## Its times

-- The moment, or `unknown` if the service did not see it.
abbrev pub time_word : Option ℕ → List ℕ
time_word None = codes "unknown"
time_word (Some moment) = decimal moment

-- The time of a state, if the job has reached it.
abbrev pub time_line : List ℕ → Bool → Option ℕ → List ℕ
time_line name reached time = cond reached (name ++ codes " " ++ time_word time ++ codes "\n") []

abbrev pub first_times : JobTimes → Job → List ℕ
first_times t r = time_line (codes "created") true t.created ++ time_line (codes "closed") (is_some r.media) t.closed

abbrev pub last_times : JobTimes → Job → List ℕ
last_times t r = time_line (codes "started") (nat_le 1 r.attempts) t.started ++ time_line (codes "ended") (has_ended r.phase) t.ended

abbrev pub job_times_text : JobTimes → Job → List ℕ
job_times_text t r = first_times t r ++ last_times t r

-- ## The reply

abbrev pub no_job : List ℕ
no_job = codes "error job\n"

abbrev pub job_row : ℕ → Bool → Job → List ℕ
job_row now hidden r = job_request (seen hidden r) ++ job_progress now r

-- The job with all its fields and times.
abbrev pub job_fields : ℕ → Bool → JobTimes → Job → List ℕ
job_fields now hidden t r = job_row now hidden r ++ job_times_text t r

abbrev pub one_shown : ℕ → ClientStanding → JobTimes → Option Job → List ℕ
one_shown now c t None = no_job
one_shown now c t (Some r) = job_fields now (hides c r) t r ++ codes "ok 1\n"

abbrev pub shown_job : ClientStanding → (ℕ → JobTimes) → State → ℕ → List ℕ
shown_job c times s j = one_shown s.moment c (times j) (job_at s j)

-- ## The end of a job

-- Its line of the listing.
abbrev pub one_told : ClientStanding → ℕ → Option Job → List ℕ
one_told c now None = no_job
one_told c now (Some r) = shown_line c now r ++ codes "ok 1\n"

abbrev pub told_job : ClientStanding → State → ℕ → List ℕ
told_job c s j = one_told c s.moment (job_at s j)

-- It has ended or does not exist.
abbrev pub is_over : Option Job → Bool
is_over None = true
is_over (Some r) = has_ended r.phase

abbrev pub has_settled : State → ℕ → Bool
has_settled s j = is_over (job_at s j)

-- ## The size of a document

abbrev pub is_of_other_size : ℕ → Option Job → Bool
is_of_other_size size None = false
is_of_other_size size (Some r) = is_incoming r.phase && not (r.size == size)

-- The job is incoming, and its document has another size.
abbrev pub has_other_size : State → ℕ → ℕ → Bool
has_other_size s j size = is_of_other_size size (job_at s j)
