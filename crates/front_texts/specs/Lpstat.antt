-- The output of `lpstat`, as CUPS prints it, with `-` for an unknown date.
use Rattle.std.specs.Prelude.{ℕ, ◌-◌, Bool, true, false, ◌&&◌, cond, nat_eq, List, [], ◌∷◌, ◌++◌, length, codes, chars, replicate, Option, None, Some}
use Rattle.std.specs.Cmp.Lexicographic.{pointwise}
use Rattle.std.specs.Fmt.{decimal}
use Rattle.std.specs.List.{flat_map}
use Rattle.unicode_width.specs.Width.{str_width}
use Rattle.line_words.specs.Blanks.{after_blanks, after_word, first_word}
use Rattle.front_texts.specs.ReplyFields.{is_word}
use Rattle.front_texts.specs.ShownUsers.{owner_word}
use Rattle.clean_texts.specs.CleanTexts.{clean_bytes, clean_text}
use Rattle.front_texts.specs.StateWords.{is_ended}
use Rattle.front_texts.specs.declared.job_line.JobLine.{JobLine}
use Rattle.front_texts.specs.declared.queue_line.QueueLine.{QueueLine}
use Rattle.front_texts.specs.declared.states.JobState.{JobState}
use Rattle.front_texts.specs.declared.states.JobState.TheVariants as jobs
use Rattle.front_texts.specs.declared.states.PrinterState.{PrinterState}
use Rattle.front_texts.specs.declared.states.PrinterState.TheVariants as printers

-- A text, blanks up to the end of its column, and one more blank.
abbrev pub padded : ℕ → List ℕ → List ℕ
padded columns text = text ++ replicate (columns - str_width false (chars text)) 32 ++ 32 ∷ []

-- ## Printers (-p)

abbrev pub is_processing : JobState → Bool
is_processing jobs.Pending = false
is_processing jobs.Held = false
is_processing jobs.Processing = true
is_processing jobs.Stopped = false
is_processing jobs.Canceled = false
is_processing jobs.Aborted = false
is_processing jobs.Completed = false

abbrev pub is_printing : List ℕ → JobLine → Bool
is_printing queue j = is_processing j.state && pointwise nat_eq j.queue queue

-- The first processing job of a queue.
abbrev pub printing_job : List ℕ → List JobLine → Option ℕ
printing_job queue [] = None
printing_job queue (j ∷ js) = cond (is_printing queue j) (Some j.number) (printing_job queue js)

-- The message of a queue, or that the reason is unknown.
abbrev pub message_of : List ℕ → List ℕ
message_of [] = codes "reason unknown"
message_of (b ∷ bs) = b ∷ bs

-- The id of a job.
abbrev pub job_name : List ℕ → ℕ → List ℕ
job_name queue job = queue ++ codes "-" ++ decimal job

abbrev pub printing_line : List ℕ → ℕ → List ℕ
printing_line name job = (codes "printer " ++ name ++ codes " now printing ") ++ job_name name job ++ codes ".  enabled since -\n"

abbrev pub stopped_line : List ℕ → List ℕ → List ℕ
stopped_line name why = (codes "printer " ++ name ++ codes " disabled since - -\n\t") ++ why ++ codes "\n"

abbrev pub state_line : List ℕ → List ℕ → PrinterState → Option ℕ → List ℕ
state_line name message printers.Idle job = codes "printer " ++ name ++ codes " is idle.  enabled since -\n"
state_line name message printers.Processing (Some job) = printing_line name job
state_line name message printers.Processing None = codes "printer " ++ name ++ codes " now printing.  enabled since -\n"
state_line name message printers.Stopped job = stopped_line name (message_of message)

abbrev pub printer_line : QueueLine → Option ℕ → List ℕ
printer_line q job = state_line q.name q.message q.state job

abbrev pub blank_part : List ℕ → List ℕ
blank_part reason = codes " " ++ reason

-- The reasons of a queue.
abbrev pub alerts_text : List (List ℕ) → List ℕ
alerts_text [] = codes " none"
alerts_text (reason ∷ reasons) = flat_map blank_part (reason ∷ reasons)

abbrev pub alerts_line : QueueLine → List ℕ
alerts_line q = codes "\tAlerts:" ++ alerts_text q.reasons ++ codes "\n"

-- A line, and its reasons if more is shown.
abbrev pub printer_entry : Bool → QueueLine → Option ℕ → List ℕ
printer_entry more q job = printer_line q job ++ cond more (alerts_line q) []

abbrev pub printers_text : Bool → List QueueLine → List JobLine → List ℕ
printers_text more queues js = flat_map (λ (q : QueueLine). printer_entry more q (printing_job q.name js)) queues

-- ## Names (-e) and devices (-v)

abbrev pub name_line : QueueLine → List ℕ
name_line q = q.name ++ codes "\n"

-- The device in the rows of a reply to `queue NAME`. It is empty if no row has one.
abbrev pub device_in : {T : Type 0} → (T → List ℕ) → List T → List ℕ
device_in text [] = []
device_in text (row ∷ rows) = cond (is_word (first_word (text row)) (codes "uri")) (after_blanks (after_word (text row))) (device_in text rows)

-- A device that the service does not show is `-`.
abbrev pub device_text : List ℕ → List ℕ
device_text [] = codes "-"
device_text (b ∷ bs) = b ∷ bs

abbrev pub device_line : List ℕ → List ℕ → List ℕ
device_line name uri = codes "device for " ++ name ++ codes ": " ++ device_text (clean_bytes uri) ++ codes "\n"

-- ## Whether queues accept jobs (-a)

abbrev pub accepting_line : QueueLine → List ℕ
accepting_line q =
    cond q.accepting
    (q.name ++ codes " accepting requests since -\n")
    (q.name ++ codes " not accepting requests since - -\n\t" ++ message_of q.message ++ codes "\n")

-- ## Jobs (-o)

abbrev pub request_cell : JobLine → List ℕ
request_cell j = padded 23 (job_name j.queue j.number)

abbrev pub owner_cell : JobLine → List ℕ
owner_cell j = padded 13 (clean_text (owner_word j.user))

abbrev pub bytes_cell : JobLine → List ℕ
bytes_cell j = replicate (8 - length (decimal j.size)) 32 ++ decimal j.size ++ codes " -\n"

abbrev pub reason_or_none : Option (List ℕ) → List ℕ
reason_or_none None = codes "none"
reason_or_none (Some reason) = reason

abbrev pub alerts_of : JobLine → List ℕ
alerts_of j = codes "\tAlerts: " ++ reason_or_none j.reason ++ codes "\n"

abbrev pub queued_for : JobLine → List ℕ
queued_for j = codes "\tqueued for " ++ j.queue ++ codes "\n"

abbrev pub job_line : JobLine → List ℕ
job_line j = request_cell j ++ owner_cell j ++ bytes_cell j

-- A line, and two more in the long form.
abbrev pub job_entry : Bool → JobLine → List ℕ
job_entry long j = job_line j ++ cond long (alerts_of j ++ queued_for j) []
