-- The commands for actions on jobs and queues.
use Rattle.std.specs.Prelude.{◌≡◌, ℕ, Bool, true, false, ◌&&◌, ◌||◌, not, cond, ◌==◌, List, [], ◌∷◌, length, codes, string_bytes, Option, None, Some, Result, Ok, Err}
use Rattle.std.specs.List.{list_any}
use Rattle.command_lines.specs.CommandGrammar.{is_word}
use Rattle.front_texts.specs.Lpstat.{is_processing}
use Rattle.front_texts.specs.StateWords.{is_ended}
use Rattle.front_texts.specs.declared.job_line.JobLine.{JobLine}
use Rattle.front_words.specs.PlainActs.{word_for}
use Rattle.front_words.specs.declared.asked.JobAct.{JobAct}
use Rattle.front_words.specs.declared.asked.JobAct.TheVariants.{Cancel, CancelOnly, Hold, Resume, Plain}
use Rattle.front_words.specs.declared.asked.QueueAct.{QueueAct}
use Rattle.front_words.specs.declared.asked.QueueAct.TheVariants.{Add, Set, Accept, Reject, Enable, Disable}
use Rattle.spool_front.specs.SentCommands.{hold_line, info_line, job_line, name_line, queue_line}
use Rattle.spool_front.specs.ServiceMoments.{second_of}
use Rattle.spool_front.specs.declared.moments.Clocks.{Clocks}
use Rattle.spool_front.specs.declared.commands.Until.TheVariants.{Released, Reached}
use Rattle.spool_front.specs.declared.fault.Fault.{Fault}
use Rattle.spool_front.specs.declared.fault.Fault.TheVariants.{Refused}

-- The command for one job, with its moment by these clocks.
abbrev pub act_line : Clocks → JobAct → ℕ → List ℕ
act_line c Cancel job = job_line (codes "stop") job
act_line c CancelOnly job = job_line (codes "cancel") job
act_line c Resume job = job_line (codes "release") job
act_line c (Plain act) job = job_line (word_for act) job
act_line c (Hold None) job = hold_line job Released
act_line c (Hold (Some moment)) job = hold_line job (Reached (second_of c moment))

-- The command of this action is `stop`, which an older service does not know.
abbrev pub is_stop : JobAct → Bool
is_stop Cancel = true
is_stop act = false

abbrev pub is_unknown : Result (Unit {0}) Fault → Bool
is_unknown (Err (Refused text)) = is_word (string_bytes text) (codes "error syntax")
is_unknown ended = false

-- The job is not released if it is not held.
abbrev pub is_resume : JobAct → Bool
is_resume Resume = true
is_resume act = false

abbrev pub is_not_held : Result (Unit {0}) Fault → Bool
is_not_held (Err (Refused text)) = is_word (string_bytes text) (codes "error 15 NotHeld") || is_word (string_bytes text) (codes "error 11 NotWaiting")
is_not_held ended = false

abbrev pub is_refused : Result (Unit {0}) Fault → Bool
is_refused (Err (Refused text)) = true
is_refused ended = false

-- The result of a command that may be refused.
abbrev pub unless_refused : Result (Unit {0}) Fault → Result (Unit {0}) Fault
unless_refused ended = cond (is_refused ended) (Ok tt) ended

-- The command for a queue.
abbrev pub queue_act_line : List ℕ → QueueAct → List ℕ
queue_act_line name (Add queue) = queue_line name queue
queue_act_line name (Set info location) = info_line name info.now location.now
queue_act_line name Accept = name_line (codes "accept") name
queue_act_line name Reject = name_line (codes "reject") name
queue_act_line name Enable = name_line (codes "enable") name
queue_act_line name Disable = name_line (codes "disable") name

-- The job is of this queue, or no queue is named.
abbrev pub is_of : Option (List ℕ) → JobLine → Bool
is_of None job = true
is_of (Some queue) job = is_word job.queue queue

-- The job is of this user, or no user is named.
abbrev pub is_by : Option (List ℕ) → JobLine → Bool
is_by None job = true
is_by (Some user) job = is_word job.user user

-- The job is of one of these queues, or none is named, and of the user, and it has not ended.
abbrev pub is_cleared : {T : Type 0} → List T → (T → List ℕ) → Option (List ℕ) → JobLine → Bool
is_cleared names text user job =
    ((length names == 0) || list_any (λ name. is_word (text name) job.queue) names) && (is_by user job && not (is_ended job.state))

abbrev pub number_of : {T : Type 0} → List T → (T → List ℕ) → Option (List ℕ) → JobLine → Option ℕ
number_of names text user job = cond (is_cleared names text user job) (Some job.number) None

-- The current job of a queue: its printing job, or else its first job that has not ended.
abbrev pub is_active : Bool → List ℕ → JobLine → Bool
is_active printing queue job = is_word job.queue queue && cond printing (is_processing job.state) (not (is_ended job.state))

abbrev pub active_job : Bool → List ℕ → List JobLine → Option ℕ
active_job printing queue [] = None
active_job printing queue (job ∷ jobs) = cond (is_active printing queue job) (Some job.number) (active_job printing queue jobs)

abbrev pub or_waiting : Option ℕ → List ℕ → List JobLine → Option ℕ
or_waiting (Some job) queue jobs = Some job
or_waiting None queue jobs = active_job false queue jobs

abbrev pub current_job : List ℕ → List JobLine → Option ℕ
current_job queue jobs = or_waiting (active_job true queue jobs) queue jobs
