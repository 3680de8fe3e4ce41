-- The steps of a submission.
use Rattle.std.specs.Prelude.{◌≡◌, ℕ, ◌+◌, ◌⊎◌, Bool, true, false, ◌&&◌, ◌==◌, cond, is_some, min, List, [], ◌∷◌, ⊤, codes, String, string_bytes, Option, None, Some}
use Rattle.std.specs.Global.{Global}
use Rattle.command_lines.specs.CommandGrammar.{is_word}
use Rattle.front_submission.specs.SubmissionSteps.{deserted, heard, lost, supplied, unread}
use Rattle.front_submission.specs.declared.reply.Found.{Found}
use Rattle.front_submission.specs.declared.reply.Reply.{Reply}
use Rattle.front_submission.specs.declared.reply.Reply.TheVariants.{Created, Sent, Done, Gone, Later, NotIncoming, Denied, Unclear}
use Rattle.front_submission.specs.declared.step.Cause.{Cause}
use Rattle.front_submission.specs.declared.step.Cause.TheVariants.{Declined, OtherSize, EndedEarly, Unreadable, Deserted}
use Rattle.front_submission.specs.declared.step.End.{End}
use Rattle.front_submission.specs.declared.step.End.TheVariants.{Accepted, Unprintable}
use Rattle.front_submission.specs.declared.step.Step.{Step}
use Rattle.front_submission.specs.declared.step.Step.TheVariants.{Sending, Measuring, Holding, Closing, Checking, Ended}
use Rattle.front_texts.specs.declared.states.JobState.{JobState}
use Rattle.front_texts.specs.declared.states.JobState.TheVariants.{Canceled, Aborted, Completed}
use Rattle.refusal_sentences.specs.RefusalSentences.{sentence_of}
use Rattle.service_replies.specs.ServiceReplies.{reply_in}
use Rattle.spool_front.specs.FoundJobs.{with_job}
use Rattle.spool_front.specs.declared.client.Answer.{Answer}
use Rattle.spool_front.specs.declared.commands.Draft.{Draft}
use Rattle.spool_front.specs.declared.printing.Told.{Told}
use Rattle.spool_front.specs.declared.printing.Told.TheVariants.{Nothing, Json, Text}

-- Why a service denies a document, from whether the user has named the owner.
abbrev pub denied_text : Bool → List ℕ
denied_text true = codes "only operators may name another user (see spool_service(8), Roles)"
denied_text false = codes "the service denies the document (see spool_service(8), Roles)"

-- A refusal as a message, from whether the user has named the owner and the media type.
abbrev pub refusal_text : Bool → Bool → List ℕ → List ℕ
refusal_text named typed text =
    cond (is_word text (codes "error denied")) (denied_text named)
    (cond (typed && is_word text (codes "error syntax")) (codes "the service does not take the media type")
    (sentence_of text))

-- Why a document is refused, as a message, from the last refusal and whether memory ran out.
abbrev pub cause_text : Draft → Option (String Global) → Bool → Cause → List ℕ
cause_text draft (Some text) memory Declined = refusal_text draft.is_named (is_some draft.media) (string_bytes text)
cause_text draft None memory Declined = codes "the service refused the document"
cause_text draft refusal memory OtherSize = codes "the size of the job differs from the number of bytes sent"
cause_text draft refusal memory EndedEarly = codes "the job was ended before the document was complete"
cause_text draft refusal memory Unreadable = codes "cannot read the document"
cause_text draft refusal true Deserted = codes "out of memory"
cause_text draft refusal false Deserted = codes "cannot reach the service"

-- One more lost or unclear reply, up to the greatest number.
abbrev pub one_more : ℕ → ℕ
one_more n = min (n + 1) 18446744073709551615

-- The number of lost or unclear replies since the document last made progress, after a reply.
abbrev pub lost_after : ℕ → Reply → ℕ
lost_after n Unclear = one_more n
lost_after n Later = one_more n
lost_after n (Created job) = 0
lost_after n (Sent size) = 0
lost_after n Done = 0
lost_after n reply = n

-- The reply is a refusal.
abbrev pub is_refusal : Reply → Bool
is_refusal Denied = true
is_refusal NotIncoming = true
is_refusal Later = true
is_refusal Gone = true
is_refusal reply = false

-- The reply to a piece from the replies to its two commands. Only if the second command was refused, and so not executed, the first one decides.
abbrev pub joined_reply : Reply → Reply → Reply
joined_reply first second = cond (is_refusal second) first second

-- The last refusal, after a reply.
abbrev pub noted : Answer → Option (String Global) → Option (String Global)
noted answer refusal = cond (is_refusal (reply_in (string_bytes answer.last))) (Some answer.last) refusal

-- The reply to a piece from those to its commands, one or two, and the last refusal.
abbrev pub IsHeard : List Answer → Option (String Global) → Reply → Option (String Global) → Type 0
IsHeard [] old reply new = ⊤
IsHeard (only ∷ []) old reply new = (reply ≡ reply_in (string_bytes only.last)) × (new ≡ noted only old)
IsHeard (first ∷ second ∷ []) old reply new =
    (reply ≡ joined_reply (reply_in (string_bytes first.last)) (reply_in (string_bytes second.last))) × (new ≡ noted second (noted first old))
IsHeard (first ∷ second ∷ third ∷ others) old reply new = ⊤

-- The step after a request: its reply was received, it was lost, or the submission was given up.
abbrev pub IsAnswered : Step → Step → Type 0
IsAnswered step next =
    ((reply : Reply) × (next ≡ heard step reply)) ⊎ ((next ≡ lost step) ⊎ ((next ≡ deserted step) ⊎ (next ≡ deserted (lost step))))

-- The step after the next piece, which has this length or cannot be read. `last` says whether the document ends with it.
abbrev pub IsSupplied : Step → ℕ → Bool → Bool → Step → Type 0
IsSupplied step count last holds next = (next ≡ supplied step count last holds) ⊎ (next ≡ unread step)

-- The found jobs, with this job if it has the token.
abbrev pub IsLooked : ℕ → Found → Found → Type 0
IsLooked job before after = (after ≡ before) ⊎ ((size : ℕ) × (after ≡ with_job before job size))

-- The job was closed, whether or not filters convert it for its printer.
abbrev pub was_closed : End → Bool
was_closed (Accepted job) = true
was_closed (Unprintable job) = true
was_closed end = false

-- Nothing of the document is left to read, for the job may have been closed or is closed next.
abbrev pub is_behind : Step → Bool
is_behind (Sending job size piece last tries) = last
is_behind (Measuring job size piece last) = last
is_behind (Holding job size tries) = true
is_behind (Closing job size tries again) = true
is_behind (Checking job size) = true
is_behind (Ended end) = was_closed end
is_behind step = false

-- How an accepted job is reported, from --quiet and --json.
abbrev pub told_of : Bool → Bool → Told
told_of quiet json = cond quiet Nothing (cond json Json Text)

-- A document without a byte is refused if the program takes none.
abbrev pub is_refused : Bool → Option ℕ → Bool
is_refused filled None = false
is_refused filled (Some size) = filled && (size == 0)

-- A file is removed if this was requested, and its job was accepted.
abbrev pub is_removed : Bool → ℕ → Bool
is_removed remove status = remove && (status == 0)

-- The exit status for a job that the program waits for, once the job has ended.
abbrev pub status_at : JobState → Option ℕ
status_at Completed = Some 0
status_at Canceled = Some 5
status_at Aborted = Some 5
status_at state = None
