-- A request in progress: its commands, its job, and the header of its answer.
use Rattle.std.specs.Prelude.{ℕ, ◌+◌, Bool, true, false, not, ◌&&◌, ◌||◌, cond, nat_lt, ◌==◌, length, slice_get, List, [], ◌++◌, codes, string_bytes, Option, None, Some}
use Rattle.std.specs.Fmt.{decimal}
use Rattle.std.specs.Option.{option_map}
use Rattle.command_lines.specs.CommandGrammar.{is_word}
use Rattle.ipp_printing.specs.declared.printing.PrintingJob.{PrintingJob}
use Rattle.ipp_submission.specs.JobParts.{Progress, is_ready, lost_in}
use Rattle.ipp_values.specs.declared.message.Version.{Version}
use Rattle.ipp_tasks.specs.declared.answers.Header.{Header}
use Rattle.ipp_tasks.specs.declared.requests.Begun.{Begun}
use Rattle.ipp_tasks.specs.declared.requests.Begun.TheVariants as begun
use Rattle.ipp_tasks.specs.declared.submitting.Submitting.{Submitting}
use Rattle.ipp_tasks.specs.declared.tasks.Task.{Task}
use Rattle.ipp_tasks.specs.declared.tasks.Work.{Work}
use Rattle.ipp_tasks.specs.declared.tasks.Work.TheVariants.{Printing}

-- ## Commands

abbrev pub queue_line : List ℕ → List ℕ
queue_line name = codes "queue " ++ name ++ codes "\n"

-- A page of the jobs of a queue, or of all, from a number on.
abbrev pub queue_words : Option (List ℕ) → List ℕ
queue_words None = []
queue_words (Some queue) = codes " queue " ++ queue

abbrev pub list_line : Option (List ℕ) → ℕ → List ℕ
list_line queue from = codes "list" ++ queue_words queue ++ codes " from " ++ decimal from ++ codes " most 100\n"

abbrev pub count_of : Task → ℕ
count_of task = length task.commands.items

abbrev pub has_command : Task → Bool
has_command task = not (count_of task == 0)

-- The next command, if it may be sent at this time.
abbrev pub unsent_of : Task → ℕ → Option (List ℕ)
unsent_of task millis = cond (nat_lt millis task.not_before) None (option_map (λ command. command.items) (slice_get task.commands.items task.sent))

-- How many commands are sent, once the next one is.
abbrev pub sent_after : Task → ℕ
sent_after task = cond (nat_lt task.sent (count_of task)) (task.sent + 1) task.sent

abbrev pub is_of : Option (List ℕ) → List ℕ → Bool
is_of None name = true
is_of (Some queue) name = is_word queue name

-- ## The job of a request

abbrev pub submission_in : Work → Option Submitting
submission_in (Printing s) = Some s
submission_in work = None

abbrev pub waits_by : Option Submitting → Bool
waits_by None = false
waits_by (Some s) = s.takes

-- The next part of the body is awaited.
abbrev pub waits_for_body : Task → Bool
waits_for_body task = not (has_command task) && waits_by (submission_in task.work)

-- The job, if it waits for the next request.
abbrev pub waiting_by : Option Submitting → Option PrintingJob
waiting_by None = None
waiting_by (Some s) = cond (is_ready s.job.submission) (Some s.job) None

-- A command of a submission is sent and has no reply. The last one may only show the job.
abbrev pub waits_for_reply : Bool → ℕ → ℕ → Bool
waits_for_reply true sent count = nat_lt 0 sent && nat_lt 1 count
waits_for_reply false sent count = nat_lt 0 sent && nat_lt 0 count

abbrev pub is_unanswered_by : Task → Option Submitting → Bool
is_unanswered_by task None = false
is_unanswered_by task (Some s) = waits_for_reply s.shows task.sent (count_of task)

abbrev pub is_unanswered : Task → Bool
is_unanswered task = is_unanswered_by task (submission_in task.work)

-- The submission, if its last command may have had an effect.
abbrev pub abandoned : Bool → Submitting → Progress
abandoned unanswered s = cond unanswered (lost_in s.job.submission) s.job.submission

abbrev pub abandoned_by : Task → Option Submitting → Option Progress
abandoned_by task s = option_map (abandoned (is_unanswered task)) s

-- ## The header of an answer

abbrev pub is_known : Version → Bool
is_known v = ((v.major == 1) && nat_lt v.minor 2) || ((v.major == 2) && nat_lt v.minor 3)

-- An unknown version is answered in 2.0.
abbrev pub answered_version : Version → Version
answered_version v = cond (is_known v) v (record { major = 2; minor = 0 })

abbrev pub header_of : Begun → Header
header_of (begun.Task task) = task.header
header_of (begun.Answer header status groups) = header
