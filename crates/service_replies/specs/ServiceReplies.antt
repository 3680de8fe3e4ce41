-- The meaning of a service's replies for a submission.
use Rattle.std.specs.Prelude.{ℕ, Bool, true, false, ◌||◌, cond, ◌==◌, List, [], ◌∷◌, codes, Option, None, Some, is_some}
use Rattle.std.specs.List.{before_first, after_first}
use Rattle.line_words.specs.DecimalNumbers.{decimal}
use Rattle.command_lines.specs.CommandGrammar.{is_word, job_in}
use Rattle.front_texts.specs.ReplyLines.{Last, done, refused, failed, last_line, is_space}
use Rattle.front_texts.specs.declared.job_shown.JobShown.{JobShown}
use Rattle.front_texts.specs.declared.states.JobState.{JobState}
use Rattle.front_texts.specs.declared.states.JobState.TheVariants.{Aborted}
use Rattle.front_submission.specs.declared.reply.Reply.{Reply}
use Rattle.front_submission.specs.declared.reply.Reply.TheVariants.{Created, Sent, Closed, Done, Gone, Later, NotIncoming, Denied, Unclear}
use Rattle.front_submission.specs.declared.reply.Shown.{Shown}
use Rattle.front_submission.specs.declared.reply.Shown.TheVariants.{Arriving, WasClosed, NoFilters, NeverClosed}

-- The number of the created job.
abbrev pub job_of : Option ℕ → Reply
job_of None = Unclear
job_of (Some job) = Created job

abbrev pub job_as : List ℕ → Reply
job_as text = job_of (job_in text)

abbrev pub size_of : Option ℕ → Reply
size_of None = Unclear
size_of (Some size) = Sent size

abbrev pub bytes_as : List ℕ → Reply
bytes_as text = size_of (decimal 1099511627776 text)

-- The type of the document, followed by the stages or by `unprintable`.
abbrev pub type_as : List ℕ → Reply
type_as text =
    cond (is_word (before_first is_space (after_first is_space text)) (codes "stages")) (Closed true)
    (cond (is_word (before_first is_space (after_first is_space text)) (codes "unprintable")) (Closed false)
    Unclear)

abbrev pub word_as : List ℕ → List ℕ → Reply
word_as word rest =
    cond (is_word word (codes "job")) (job_as rest)
    (cond (is_word word (codes "bytes")) (bytes_as rest)
    (cond (is_word word (codes "type")) (type_as rest)
    Unclear))

-- The words after `ok`.
abbrev pub done_as : List ℕ → Reply
done_as [] = Done
done_as (b ∷ bs) = word_as (before_first is_space (b ∷ bs)) (after_first is_space (b ∷ bs))

-- A word after `error`. After an error of the disk it is unknown whether the command was executed.
abbrev pub failed_as : List ℕ → Reply
failed_as word =
    cond (is_word word (codes "job")) Gone
    (cond (is_word word (codes "memory") || is_word word (codes "full")) Later
    (cond (is_word word (codes "disk") || (is_word word (codes "dead") || is_word word (codes "busy"))) Unclear
    Denied))

abbrev pub reply_as : Option Last → Reply
reply_as None = Unclear
reply_as (Some (done words)) = done_as words
reply_as (Some (refused number name)) = cond (number == 6) NotIncoming Denied
reply_as (Some (failed word)) = failed_as word

-- The last line of a reply.
abbrev pub reply_in : List ℕ → Reply
reply_in line = reply_as (last_line line)

-- The reply to the last piece of a document and to the close that was sent together with it. If the job was closed, it had all bytes.
-- Otherwise the close changed nothing, unless its reply is unclear.
abbrev pub closing_reply : Reply → Reply → Reply
closing_reply sent (Closed printable) = Closed printable
closing_reply (Sent size) Unclear = Unclear
closing_reply sent closed = sent

abbrev pub says_gone : Reply → Bool
says_gone Gone = true
says_gone reply = false

-- The job does not exist.
abbrev pub is_gone : List ℕ → Bool
is_gone line = says_gone (reply_in line)

-- The state of a job that was closed, from its state and whether its reason is that no filters convert to its printer's type.
abbrev pub closed_as : JobState → Bool → Shown
closed_as Aborted true = NoFilters
closed_as state no_filter = WasClosed

-- A job that was closed has a type. One that was not closed is incoming or has ended.
abbrev pub shown_as : Bool → JobState → Bool → Bool → ℕ → Shown
shown_as true state no_filter incoming size = closed_as state no_filter
shown_as false state no_filter true size = Arriving size
shown_as false state no_filter false size = NeverClosed

-- The reason of a state is this word.
abbrev pub has_reason : List ℕ → Option (List ℕ) → Bool
has_reason word None = false
has_reason word (Some reason) = is_word reason word

abbrev pub shown_of : JobShown → Shown
shown_of job =
    shown_as (is_some job.job_status.media) job.job_status.state
    (has_reason (codes "no-filter") job.job_status.reason) (has_reason (codes "job-incoming") job.job_status.reason) job.job_status.size
