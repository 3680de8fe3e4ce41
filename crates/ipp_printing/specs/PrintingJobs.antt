-- The submission of a job that is being created, and what a reply means for it.
use Rattle.std.specs.Prelude.{◌≡◌, ◌⊎◌, ℕ, Bool, true, false, List, [], ◌∷◌, Option, None, Some, Vec}
use Rattle.std.specs.Global.{Global}
use Rattle.front_submission.specs.declared.reply.Reply.{Reply}
use Rattle.front_submission.specs.declared.reply.Reply.TheVariants as replies
use Rattle.front_submission.specs.declared.step.Request.{Request}
use Rattle.front_submission.specs.declared.step.Request.TheVariants.{Find, Send, Show}
use Rattle.front_texts.specs.JobPage.{shown_job}
use Rattle.front_texts.specs.declared.job_shown.JobShown.{JobShown}
use Rattle.ipp_facts.specs.JobReports.{rows_text}
use Rattle.ipp_submission.specs.JobParts.{Progress, heard_in, next_request}
use Rattle.service_replies.specs.ServiceReplies.{closing_reply, reply_in, shown_of}
use Rattle.ipp_printing.specs.declared.printing.PrintingJob.{PrintingJob}

abbrev pub submission_of : PrintingJob → Progress
submission_of job = job.submission

-- The rows of `job N`.
abbrev pub job_reply : Option JobShown → Reply
job_reply None = replies.Unclear
job_reply (Some job) = replies.Job (shown_of job)

-- A reply with rows shows the job.
abbrev pub rows_reply : Reply → List (Vec ℕ Global) → Reply
rows_reply reply [] = reply
rows_reply reply (row ∷ rows) = job_reply (shown_job (rows_text (row ∷ rows)))

-- The meaning of a reply to this request with this last line.
abbrev pub meaning : Request → List ℕ → List (Vec ℕ Global) → Reply
meaning (Show job) last rows = rows_reply (reply_in last) rows
meaning request last rows = reply_in last

abbrev pub is_search : Request → Bool
is_search Find = true
is_search request = false

-- The last piece and its close have one reply together. That to the piece is kept until that to the close has come.
abbrev pub heard_last : Option Reply → Progress → Reply → Progress
heard_last None p reply = p
heard_last (Some sent) p reply = heard_in p (closing_reply sent reply)

abbrev pub kept_last : Option Reply → Reply → Option Reply
kept_last None reply = Some reply
kept_last (Some sent) reply = None

-- The submission after a reply to this request with this last line.
abbrev pub heard_by : PrintingJob → Request → List ℕ → List (Vec ℕ Global) → Progress
heard_by job (Send number size piece true) last rows = heard_last job.sent (submission_of job) (reply_in last)
heard_by job request last rows = heard_in (submission_of job) (meaning request last rows)

-- The reply to a last piece that is kept then.
abbrev pub kept_by : Option Reply → Request → List ℕ → Option Reply
kept_by sent (Send number size piece true) last = kept_last sent (reply_in last)
kept_by sent request last = sent

-- The submission takes a reply, or waits for the second reply of a search or of a last piece.
abbrev pub HearsSome : Progress → Progress → Type 0
HearsSome old new = (new ≡ old) ⊎ ((reply : Reply) × (new ≡ heard_in old reply))
