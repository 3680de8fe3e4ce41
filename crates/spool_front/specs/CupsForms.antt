-- The requests of lpstat and lpq.
use Rattle.std.specs.Prelude.{ℕ, Bool, true, false, not, ◌&&◌, ◌||◌, ◌==◌, cond, List, [], ◌∷◌, ◌++◌, length, codes, String, string_bytes, Option, None, Some, is_some, unwrap_or}
use Rattle.std.specs.Global.{Global}
use Rattle.std.specs.Fmt.{decimal}
use Rattle.std.specs.List.{list_any, slice_split}
use Rattle.std.specs.Option.{option_map}
use Rattle.command_lines.specs.CommandGrammar.{is_word}
use Rattle.front_texts.specs.StateWords.{is_ended}
use Rattle.front_texts.specs.declared.job_line.JobLine.{JobLine}
use Rattle.front_texts.specs.declared.queue_line.QueueLine.{QueueLine}
use Rattle.front_words.specs.declared.asked.Lpq.{Lpq}
use Rattle.front_words.specs.declared.asked.Lpstat.{Lpstat}
use Rattle.front_words.specs.declared.asked.Which.{Which}
use Rattle.front_words.specs.declared.asked.Which.TheVariants.{NotCompleted, Completed, All}

-- The requested names. The empty list means all.
abbrev pub list_of : Option (List ℕ) → Bool → Option (List ℕ)
list_of (Some names) all = Some names
list_of None true = Some []
list_of None all = None

abbrev pub has_some : {T : Type 0} → List T → Bool
has_some [] = not true
has_some (x ∷ xs) = true

-- ## What was requested

abbrev pub asks_jobs : Lpstat → Bool
asks_jobs asked = asked.all || (is_some asked.jobs || (is_some asked.users || has_some asked.names.items))

abbrev pub asks_lists : Lpstat → Bool
asks_lists asked = is_some asked.accepting || (is_some asked.printers || is_some asked.devices)

abbrev pub asks_queues : Lpstat → Bool
asks_queues asked = asks_lists asked || (asked.usual || (asked.summary || (asked.destinations || is_some asked.classes)))

-- Anything but the service and its socket was requested.
abbrev pub asks_service : Lpstat → Bool
asks_service asked = asks_jobs asked || asks_queues asked

-- Jobs were requested, or nothing was.
abbrev pub lists_jobs : Lpstat → Bool
lists_jobs asked = asks_jobs asked || not (asked.scheduler || (asked.server || asks_queues asked))

abbrev pub running_line : Bool → List ℕ
running_line true = codes "scheduler is running\n"
running_line false = codes "scheduler is not running\n"

-- The queue was requested. Without a name all are.
abbrev pub is_meant : Option (String Global) → QueueLine → Bool
is_meant None queue = true
is_meant (Some name) queue = is_word (string_bytes name) queue.name

-- A comma or a blank separates two names.
abbrev pub is_between : ℕ → Bool
is_between b = (b == 44) || (b == 32)

abbrev pub is_part : List ℕ → List ℕ → Bool
is_part names name = list_any (λ part. is_word part name) (slice_split is_between names)

-- The name is in the list. The empty list contains all names.
abbrev pub has_name : List ℕ → List ℕ → Bool
has_name names name = (length names == 0) || is_part names name

-- The id of a job: its queue and its number.
abbrev pub job_id : JobLine → List ℕ
job_id job = job.queue ++ codes "-" ++ decimal job.number

-- The list contains the job's queue or its id.
abbrev pub lists_job : List ℕ → JobLine → Bool
lists_job names job = has_name names job.queue || has_name names (job_id job)

-- The job was requested: by one of the names or, if there are none, by the list of jobs.
abbrev pub is_named : Lpstat → JobLine → Bool
is_named asked job =
    cond (length asked.names.items == 0)
    (lists_job (unwrap_or (option_map (λ names. names.now) asked.jobs) []) job)
    (list_any (λ names. lists_job names.now job) asked.names.items)

-- ## Names of no queue

abbrev pub is_known : List QueueLine → List ℕ → Bool
is_known queues name = list_any (λ queue. is_word queue.name name) queues

abbrev pub is_unknown : List QueueLine → List ℕ → Bool
is_unknown queues name = not (length name == 0) && not (is_known queues name)

abbrev pub is_any_unknown : List ℕ → List QueueLine → Bool
is_any_unknown names queues = list_any (is_unknown queues) (slice_split is_between names)

abbrev pub has_unknown : List ℕ → List QueueLine → Bool
has_unknown names queues = not (length names == 0) && is_any_unknown names queues

-- ## The jobs of -W and -u

abbrev pub is_which : Which → JobLine → Bool
is_which NotCompleted job = not (is_ended job.state)
is_which Completed job = is_ended job.state
is_which All job = true

abbrev pub is_asked : Lpstat → JobLine → Bool
is_asked asked job = is_which asked.which job && has_name (unwrap_or (option_map (λ names. names.now) asked.users) []) job.user

-- ## The jobs of lpq

abbrev pub is_numbered : List ℕ → JobLine → Bool
is_numbered numbers job = list_any (λ number. number == job.number) numbers

-- The job has one of the numbers, or is of one of the users, or nothing was named.
abbrev pub is_listed : Lpq → JobLine → Bool
is_listed asked job =
    cond ((length asked.jobs.items == 0) && (length asked.users.items == 0)) true
    (is_numbered asked.jobs.items job || list_any (λ user. is_word user.now job.user) asked.users.items)
