-- The errors of the service, by the last lines of its replies (cegmandi_protocol(5)).
use Rattle.std.specs.Prelude.{ℕ, Bool, true, false, cond, ◌==◌, List, codes, Option, None, Some}
use Rattle.spool_types.specs.declared.refusal.Refusal.TheVariants as refusals
use Rattle.front_texts.specs.ReplyFields.{is_word}
use Rattle.front_texts.specs.ReplyLines.{Last, done, refused, failed}
use Rattle.ipp_requests.specs.declared.refusals.ServiceError.{ServiceError}
use Rattle.ipp_requests.specs.declared.refusals.ServiceError.TheVariants.{Refused, NoJob, NoQueue, Denied, Options, Memory, Full, Busy, Disk, Dead, EpochEnd, Unclear}

-- The refusals that a command of the front may meet, by their numbers.
abbrev pub refusal_error : ℕ → ServiceError
refusal_error number =
    cond (number == 1) (Refused refusals.NoQueue)
    (cond (number == 4) (Refused refusals.NotAccepting)
    (cond (number == 5) (Refused refusals.NoJob)
    (cond (number == 6) (Refused refusals.NotIncoming)
    (cond (number == 7) (Refused refusals.TooLong)
    (cond (number == 9) (Refused refusals.NoNumberLeft)
    (cond (number == 10) (Refused refusals.JobEnded)
    (cond (number == 11) (Refused refusals.NotWaiting)
    (cond (number == 15) (Refused refusals.NotHeld)
    (cond (number == 16) (Refused refusals.NotEnded)
    (cond (number == 17) (Refused refusals.NeedsCheckpoint)
    Unclear))))))))))

abbrev pub word_error : List ℕ → ServiceError
word_error word =
    cond (is_word word (codes "job")) NoJob
    (cond (is_word word (codes "queue")) NoQueue
    (cond (is_word word (codes "denied")) Denied
    (cond (is_word word (codes "options")) Options
    (cond (is_word word (codes "memory")) Memory
    (cond (is_word word (codes "full")) Full
    (cond (is_word word (codes "busy")) Busy
    (cond (is_word word (codes "disk")) Disk
    (cond (is_word word (codes "dead")) Dead
    (cond (is_word word (codes "epoch")) EpochEnd
    Unclear)))))))))

abbrev pub error_by : Option Last → ServiceError
error_by None = Unclear
error_by (Some (done words)) = Unclear
error_by (Some (refused number name)) = refusal_error number
error_by (Some (failed word)) = word_error word

abbrev pub is_done_by : Option Last → Bool
is_done_by None = false
is_done_by (Some (done words)) = true
is_done_by (Some (refused number name)) = false
is_done_by (Some (failed word)) = false
