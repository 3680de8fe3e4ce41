-- The page of queues and jobs: each text other than the page's own is `escaped`, and one that a user or a printer chose is clean.
use Rattle.std.specs.Prelude.{ℕ, Bool, true, false, cond, ◌==◌, ◌&&◌, nat_eq, List, [], ◌∷◌, ◌++◌, length, codes, Option, None, Some}
use Rattle.std.specs.Cmp.Lexicographic.{pointwise}
use Rattle.std.specs.Fmt.{decimal}
use Rattle.std.specs.List.{flat_map}
use Rattle.clean_texts.specs.CleanTexts.{clean_text}
use Rattle.front_texts.specs.AgedJobs.{age_words}
use Rattle.front_texts.specs.Escape.{escaped}
use Rattle.front_texts.specs.StateWords.{printer_state_word, shown_word, yes_or_no}
use Rattle.front_texts.specs.declared.aged_jobs.AgedJob.{AgedJob}
use Rattle.front_texts.specs.declared.job_line.JobLine.{JobLine}
use Rattle.front_texts.specs.declared.queue_line.QueueLine.{QueueLine}
use Rattle.front_texts.specs.declared.states.JobState.{JobState}
use Rattle.front_texts.specs.declared.states.JobState.TheVariants as jobs
use Rattle.front_texts.specs.declared.states.PrinterState.{PrinterState}
use Rattle.front_texts.specs.declared.states.PrinterState.TheVariants as printers
use Rattle.front_texts.specs.declared.web_page.TheConstants.{OPENING, REFRESH, STYLE, HEADING, QUEUES, JOBS, CLOSING}

-- A text that a user or a printer chose. The element `bdi` isolates it: its direction has no effect on the texts around it.
abbrev pub text_html : List ℕ → List ℕ
text_html text = codes "<bdi>" ++ escaped (clean_text text) ++ codes "</bdi>"

abbrev pub cell : List ℕ → List ℕ
cell text = codes "<td>" ++ text_html text ++ codes "</td>"

abbrev pub number_cell : ℕ → List ℕ
number_cell number = codes "<td class=\"n\">" ++ decimal number ++ codes "</td>"

-- The name of the state is also the class of the cell, which determines its color.
abbrev pub state_class : List ℕ → List ℕ
state_class word = codes "<td class=\"state " ++ escaped word ++ codes "\">"

abbrev pub state_cell : List ℕ → List ℕ
state_cell word = state_class word ++ escaped word ++ codes "</td>"

-- ## Filters

-- A name is shown if it is the only one, or if all are shown.
abbrev pub is_shown : Option (List ℕ) → List ℕ → Bool
is_shown None name = true
is_shown (Some only) name = pointwise nat_eq name only

-- A job is shown if its queue and its user are.
abbrev pub is_job_shown : Option (List ℕ) → Option (List ℕ) → JobLine → Bool
is_job_shown queue user j = is_shown queue j.queue && is_shown user j.user

-- ## A queue

-- The row of a queue has a name of its own, to which its name in the row leads.
abbrev pub queue_start : List ℕ → List ℕ
queue_start name = codes "<tr id=\"printer-" ++ escaped name ++ codes "\">"

abbrev pub link_start : List ℕ → List ℕ
link_start name = codes "<a href=\"#printer-" ++ escaped name ++ codes "\">"

abbrev pub name_cell : List ℕ → List ℕ
name_cell name = codes "<td>" ++ link_start name ++ text_html name ++ codes "</a></td>"

abbrev pub queue_cells : QueueLine → List ℕ
queue_cells q = name_cell q.name ++ state_cell (printer_state_word q.state) ++ cell (yes_or_no q.accepting)

abbrev pub queue_front : QueueLine → List ℕ
queue_front q = queue_start q.name ++ queue_cells q

abbrev pub reason_part : List ℕ → List ℕ
reason_part reason = codes "<span class=\"faint\">" ++ escaped reason ++ codes "</span> "

abbrev pub queue_notes : QueueLine → List ℕ
queue_notes q = codes "<td>" ++ flat_map reason_part q.reasons ++ text_html q.message ++ codes "</td>"

abbrev pub queue_rest : QueueLine → List ℕ
queue_rest q = cell q.target ++ queue_notes q ++ codes "</tr>\n"

abbrev pub queue_html : QueueLine → List ℕ
queue_html q = queue_front q ++ queue_rest q

-- The row of a queue, if it is shown.
abbrev pub queue_if_shown : Option (List ℕ) → QueueLine → List ℕ
queue_if_shown only q = cond (is_shown only q.name) (queue_html q) []

-- While the row of a queue is the target of a link, the rows of other queues' jobs are hidden.
abbrev pub target_part : List ℕ → List ℕ
target_part name = codes ":root:has(#printer-" ++ escaped name ++ codes ":target) .jobs tbody "

abbrev pub others_part : List ℕ → List ℕ
others_part name = codes "tr:not(.on-" ++ escaped name ++ codes ") { display: none }\n"

abbrev pub queue_rule : QueueLine → List ℕ
queue_rule q = target_part q.name ++ others_part q.name

-- ## A job

-- The class of the row of a job is the name of its queue.
abbrev pub job_start : List ℕ → List ℕ
job_start queue = codes "<tr class=\"on-" ++ escaped queue ++ codes "\">"

abbrev pub job_cells : JobLine → List ℕ
job_cells j = number_cell j.number ++ cell j.queue ++ state_cell (shown_word j.state j.reason)

abbrev pub job_front : JobLine → List ℕ
job_front j = job_start j.queue ++ job_cells j

abbrev pub age_text : Option ℕ → List ℕ
age_text None = []
age_text (Some seconds) = age_words seconds

-- The cell is empty if the age is unknown.
abbrev pub age_cell : Option ℕ → List ℕ
age_cell age = codes "<td class=\"n\">" ++ age_text age ++ codes "</td>"

abbrev pub job_numbers : JobLine → List ℕ
job_numbers j = number_cell j.size ++ number_cell j.pages

abbrev pub job_middle : JobLine → Option ℕ → List ℕ
job_middle j age = cell j.user ++ age_cell age ++ job_numbers j

-- The reason of a state as a sentence, or as it is.
abbrev pub reason_sentence : List ℕ → List ℕ
reason_sentence reason =
    cond (pointwise nat_eq reason (codes "job-incoming")) (codes "its document is being sent")
    (cond (pointwise nat_eq reason (codes "job-hold-until-specified")) (codes "it is held")
    (cond (pointwise nat_eq reason (codes "retry-later")) (codes "an attempt failed, and the next one is not due yet")
    reason))

-- The state of the queue with this name.
abbrev pub queue_state : List ℕ → List QueueLine → Option PrinterState
queue_state name [] = None
queue_state name (q ∷ qs) = cond (pointwise nat_eq q.name name) (Some q.state) (queue_state name qs)

-- Why a job without a reason waits, from the state of its queue.
abbrev pub queue_sentence : Option PrinterState → List ℕ
queue_sentence (Some printers.Idle) = []
queue_sentence (Some printers.Processing) = codes "its queue prints another job"
queue_sentence (Some printers.Stopped) = codes "its queue is stopped"
queue_sentence None = []

abbrev pub is_pending : JobState → Bool
is_pending jobs.Pending = true
is_pending jobs.Held = false
is_pending jobs.Processing = false
is_pending jobs.Stopped = false
is_pending jobs.Canceled = false
is_pending jobs.Aborted = false
is_pending jobs.Completed = false

abbrev pub note_by : List QueueLine → JobLine → Option (List ℕ) → List ℕ
note_by queues j (Some reason) = reason_sentence reason
note_by queues j None = cond (is_pending j.state) (queue_sentence (queue_state j.queue queues)) []

-- What a job waits for, or how it ended, as far as the rows say. It may be empty.
abbrev pub note_text : List QueueLine → JobLine → List ℕ
note_text queues j = note_by queues j j.reason

abbrev pub faint_part : List ℕ → List ℕ
faint_part text = codes " <span class=\"faint\">" ++ escaped text ++ codes "</span>"

abbrev pub note_part : List ℕ → List ℕ
note_part note = cond (length note == 0) [] (faint_part note)

-- How long it still waits for a moment.
abbrev pub left_html : ℕ → List ℕ
left_html seconds = codes " <span class=\"faint\">(" ++ age_words seconds ++ codes " left)</span>"

abbrev pub left_part : Option ℕ → List ℕ
left_part None = []
left_part (Some seconds) = left_html seconds

abbrev pub job_waits : List QueueLine → JobLine → Option ℕ → List ℕ
job_waits queues j left = note_part (note_text queues j) ++ left_part left

abbrev pub job_notes : List QueueLine → JobLine → Option ℕ → List ℕ
job_notes queues j left = codes "<td>" ++ text_html j.title ++ job_waits queues j left ++ codes "</td>"

-- The row of a job, with its age and what is left of a time, if they are known.
abbrev pub job_html : List QueueLine → JobLine → Option ℕ → Option ℕ → List ℕ
job_html queues j age left = job_front j ++ job_middle j age ++ job_notes queues j left ++ codes "</tr>\n"

-- The row of a job of which no time is known.
abbrev pub ageless_html : List QueueLine → JobLine → List ℕ
ageless_html queues j = job_html queues j None None

-- The row of a job, if it is shown.
abbrev pub job_if_shown : List QueueLine → Option (List ℕ) → Option (List ℕ) → AgedJob → List ℕ
job_if_shown queues queue user j = cond (is_job_shown queue user j.line) (job_html queues j.line j.age j.left) []

-- ## The page

-- The line that reloads the page, if `follows` is set.
abbrev pub refresh : Bool → List ℕ
refresh follows = cond follows REFRESH.now []

abbrev pub opening_html : Bool → List ℕ
opening_html follows = OPENING.now ++ refresh follows

abbrev pub style_html : List QueueLine → List ℕ
style_html queues = STYLE.now ++ flat_map queue_rule queues ++ HEADING.now

abbrev pub time_html : List ℕ → List ℕ
time_html stamp = codes "<p class=\"faint\">As of " ++ escaped stamp ++ codes "</p>\n"

-- When the page was made. It may be empty.
abbrev pub stamp_html : List ℕ → List ℕ
stamp_html stamp = cond (length stamp == 0) [] (time_html stamp)

abbrev pub only_html : List ℕ → List ℕ → List ℕ
only_html words name = words ++ text_html name ++ codes "</p>\n"

abbrev pub queue_limit : Option (List ℕ) → List ℕ
queue_limit None = []
queue_limit (Some name) = only_html (codes "<p>Only the printer ") name

abbrev pub user_limit : Option (List ℕ) → List ℕ
user_limit None = []
user_limit (Some name) = only_html (codes "<p>Only jobs of ") name

-- The filters of the page.
abbrev pub limits_html : Option (List ℕ) → Option (List ℕ) → List ℕ
limits_html queue user = queue_limit queue ++ user_limit user

abbrev pub head_html : List QueueLine → Option (List ℕ) → Option (List ℕ) → Bool → List ℕ → List ℕ
head_html queues queue user follows stamp = opening_html follows ++ style_html queues ++ stamp_html stamp ++ limits_html queue user

abbrev pub queues_html : List QueueLine → Option (List ℕ) → List ℕ
queues_html queues only = QUEUES.now ++ flat_map (queue_if_shown only) queues

abbrev pub jobs_html : List QueueLine → List AgedJob → Option (List ℕ) → Option (List ℕ) → List ℕ
jobs_html queues js queue user = JOBS.now ++ flat_map (job_if_shown queues queue user) js

abbrev pub ageless_jobs_html : List QueueLine → List JobLine → List ℕ
ageless_jobs_html queues js = JOBS.now ++ flat_map (ageless_html queues) js

-- The page of all queues and jobs, without ages.
abbrev pub page_html : List QueueLine → List JobLine → List ℕ → Bool → List ℕ
page_html queues js stamp follows =
    head_html queues None None follows stamp ++ queues_html queues None ++ ageless_jobs_html queues js ++ CLOSING.now

-- The page of the queues and jobs that are shown.
abbrev pub aged_page_html : List QueueLine → List AgedJob → Option (List ℕ) → Option (List ℕ) → Bool → List ℕ → List ℕ
aged_page_html queues js queue user follows stamp =
    head_html queues queue user follows stamp ++ queues_html queues queue ++ jobs_html queues js queue user ++ CLOSING.now
