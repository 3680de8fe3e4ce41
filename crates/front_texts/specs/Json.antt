-- Jobs and queues as JSON. The members of an object are in the order of their keys.
use Rattle.std.specs.Prelude.{ℕ, List, codes, map, Option, None, Some}
use Rattle.serde_json.specs.View.{items_of}
use Rattle.serde_json.specs.Data.{Data, null, boolean, number, unsigned, string, array, object, put, Members, member, no_members}
use Rattle.spool_types.specs.Phases.{policy_word}
use Rattle.front_texts.specs.StateWords.{job_state_word, printer_state_word}
use Rattle.front_texts.specs.declared.job_line.JobLine.{JobLine}
use Rattle.front_texts.specs.declared.job_shown.JobAsked.{JobAsked}
use Rattle.front_texts.specs.declared.job_shown.JobStatus.{JobStatus}
use Rattle.front_texts.specs.declared.job_shown.JobShown.{JobShown}
use Rattle.front_texts.specs.declared.job_shown.StageShown.{StageShown}
use Rattle.front_texts.specs.declared.job_times.JobTimes.{JobTimes}
use Rattle.front_texts.specs.declared.job_times.TimeShown.{TimeShown}
use Rattle.front_texts.specs.declared.job_times.TimeShown.TheVariants.{Unknown, At}
use Rattle.front_texts.specs.declared.queue_line.QueueLine.{QueueLine}

-- ## Jobs

-- A text or null.
abbrev pub text_data : Option (List ℕ) → Data
text_data None = null
text_data (Some text) = string text

abbrev pub moment_data : Option ℕ → Data
moment_data None = null
moment_data (Some moment) = number (unsigned moment)

abbrev pub job_data : JobLine → Data
job_data j =
    object
    (member (codes "number") (number (unsigned j.number))
    (member (codes "pages") (number (unsigned j.pages))
    (member (codes "queue") (string j.queue)
    (member (codes "reason") (text_data j.reason)
    (member (codes "size") (number (unsigned j.size))
    (member (codes "state") (string (job_state_word j.state))
    (member (codes "title") (string j.title)
    (member (codes "user") (string j.user)
    no_members))))))))

abbrev pub asked_data : JobAsked → Data
asked_data a =
    object
    (member (codes "copies") (number (unsigned a.copies))
    (member (codes "number") (number (unsigned a.number))
    (member (codes "options") (string a.options)
    (member (codes "priority") (number (unsigned a.priority))
    (member (codes "queue") (string a.queue)
    (member (codes "title") (string a.title)
    (member (codes "user") (string a.user)
    no_members)))))))

abbrev pub stage_data : Option StageShown → Data
stage_data None = null
stage_data (Some s) =
    object
    (member (codes "attempt") (number (unsigned s.attempt))
    (member (codes "stage") (number (unsigned s.stage))
    (member (codes "stages") (number (unsigned s.stages))
    no_members)))

abbrev pub moments_data : JobStatus → Data
moments_data c =
    object
    (member (codes "by") (moment_data c.by)
    (member (codes "hold_until") (moment_data c.hold_until)
    (member (codes "not_before") (moment_data c.not_before)
    no_members)))

-- The members of these objects, each inserted at its key.
abbrev pub with_job : JobLine → Members → Members
with_job j ms =
    put (codes "title") (string j.title) (put (codes "pages") (number (unsigned j.pages)) (put (codes "size") (number (unsigned j.size)) (put (codes "user") (string j.user)
    (put (codes "reason") (text_data j.reason) (put (codes "state") (string (job_state_word j.state)) (put (codes "queue") (string j.queue)
    (put (codes "number") (number (unsigned j.number)) ms)))))))

abbrev pub with_asked : JobAsked → Members → Members
with_asked a ms =
    put (codes "priority") (number (unsigned a.priority)) (put (codes "copies") (number (unsigned a.copies)) (put (codes "options") (string a.options)
    (put (codes "title") (string a.title) (put (codes "user") (string a.user) (put (codes "queue") (string a.queue)
    (put (codes "number") (number (unsigned a.number)) ms))))))

abbrev pub with_moments : JobStatus → Members → Members
with_moments c ms =
    put (codes "not_before") (moment_data c.not_before) (put (codes "hold_until") (moment_data c.hold_until) (put (codes "by") (moment_data c.by) ms))

abbrev pub with_counts : JobStatus → Members → Members
with_counts c ms =
    put (codes "attempts") (number (unsigned c.attempts)) (put (codes "pages") (number (unsigned c.pages)) (put (codes "size") (number (unsigned c.size)) ms))

abbrev pub with_state_and_reason : JobStatus → Members → Members
with_state_and_reason c ms =
    put (codes "reason") (text_data c.reason) (put (codes "state") (string (job_state_word c.state)) (put (codes "type") (text_data c.media) ms))

abbrev pub with_waits : JobStatus → Members → Members
with_waits c ms = put (codes "stage") (stage_data c.stage) (put (codes "moments") (moments_data c) ms)

abbrev pub job_status_data : JobStatus → Data
job_status_data c = object (with_waits c (with_state_and_reason c (with_counts c no_members)))

-- A time, `unknown` or null.
abbrev pub shown_time_data : TimeShown → Data
shown_time_data Unknown = string (codes "unknown")
shown_time_data (At moment) = number (unsigned moment)

abbrev pub time_data : Option TimeShown → Data
time_data None = null
time_data (Some time) = shown_time_data time

abbrev pub times_data : JobTimes → Data
times_data t =
    object
    (member (codes "closed") (time_data t.closed)
    (member (codes "created") (time_data t.created)
    (member (codes "ended") (time_data t.ended)
    (member (codes "started") (time_data t.started)
    no_members))))

abbrev pub with_times : JobTimes → Members → Members
with_times t ms =
    put (codes "ended") (time_data t.ended) (put (codes "started") (time_data t.started) (put (codes "closed") (time_data t.closed)
    (put (codes "created") (time_data t.created) ms)))

abbrev pub with_shown : JobShown → Option (List ℕ) → Members → Members
with_shown j why ms =
    put (codes "why") (text_data why) (put (codes "times") (times_data j.times) (put (codes "course") (job_status_data j.job_status)
    (put (codes "asked") (asked_data j.asked) ms)))

-- A job, and why it does not print.
abbrev pub shown_data : JobShown → Option (List ℕ) → Data
shown_data j why =
    object
    (member (codes "asked") (asked_data j.asked)
    (member (codes "course") (job_status_data j.job_status)
    (member (codes "times") (times_data j.times)
    (member (codes "why") (text_data why)
    no_members))))

abbrev pub jobs_data : List JobLine → Data
jobs_data jobs = array (items_of (map job_data jobs))

-- ## Queues

abbrev pub text_item : List ℕ → Data
text_item text = string text

abbrev pub texts_data : List (List ℕ) → Data
texts_data texts = array (items_of (map text_item texts))

abbrev pub with_queue_state : QueueLine → Members → Members
with_queue_state q ms =
    put (codes "accepting") (boolean q.accepting) (put (codes "state") (string (printer_state_word q.state)) (put (codes "name") (string q.name) ms))

abbrev pub with_queue_rules : QueueLine → Members → Members
with_queue_rules q ms =
    put (codes "limit") (number (unsigned q.limit)) (put (codes "interval") (number (unsigned q.interval)) (put (codes "policy") (string (policy_word q.policy)) ms))

abbrev pub with_queue_notes : QueueLine → Members → Members
with_queue_notes q ms =
    put (codes "message") (string q.message) (put (codes "reasons") (texts_data q.reasons) (put (codes "type") (string q.target) ms))

abbrev pub queue_data : QueueLine → Data
queue_data q = object (with_queue_notes q (with_queue_rules q (with_queue_state q no_members)))

abbrev pub queues_data : List QueueLine → Data
queues_data queues = array (items_of (map queue_data queues))
