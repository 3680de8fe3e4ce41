-- The facts of a job, by its rows.
use Rattle.std.specs.Prelude.{◌≡◌, ℕ, List, [], ◌∷◌, ◌++◌, codes, cond, nat_lt, Option, None, Some, Vec}
use Rattle.std.specs.Global.{Global}
use Rattle.std.specs.List.{flat_map}
use Rattle.std.specs.Option.{option_and_then, option_map}
use Rattle.spool_types.specs.Values.{is_media_type, is_user_name, text_in}
use Rattle.front_texts.specs.declared.job_shown.JobShown.{JobShown}
use Rattle.front_texts.specs.declared.job_times.TimeShown.{TimeShown}
use Rattle.front_texts.specs.declared.job_times.TimeShown.TheVariants as shown
use Rattle.ipp_answers.specs.JobStates.{reason_called}
use Rattle.ipp_answers.specs.declared.facts.JobFacts.{JobFacts}
use Rattle.ipp_answers.specs.declared.facts.Reached.{Reached}
use Rattle.ipp_answers.specs.declared.facts.Reached.TheVariants as reached
use Rattle.ipp_answers.specs.declared.states.JobReason.{JobReason}
use Rattle.ipp_answers.specs.declared.timestamps.Timestamp.{Timestamp}

-- The rows of a reply as one text.
abbrev pub rows_text : List (Vec ℕ Global) → List ℕ
rows_text rows = flat_map (λ row. row.items ++ 10 ∷ []) rows

-- No time of the year 10,000 or later.
abbrev pub in_time : ℕ → Option ℕ
in_time seconds = cond (nat_lt seconds 253402300800) (Some seconds) None

abbrev pub stamp_of : Option ℕ → Option ℕ
stamp_of moment = option_and_then in_time moment

abbrev pub seconds_of : Option Timestamp → Option ℕ
seconds_of time = option_map (λ time. time.seconds) time

-- When the job reached a state, if it has and if this is known.
abbrev pub reached_at : Reached → Option (Option ℕ)
reached_at reached.NotYet = None
reached_at reached.Unknown = Some None
reached_at (reached.At time) = Some (Some time.seconds)

abbrev pub reached_by : Option TimeShown → Option (Option ℕ)
reached_by None = None
reached_by (Some shown.Unknown) = Some None
reached_by (Some (shown.At moment)) = Some (in_time moment)

-- A job without a reason has the word `none`.
abbrev pub reason_of : Option (List ℕ) → Option JobReason
reason_of None = reason_called (codes "none")
reason_of (Some reason) = reason_called reason

-- The facts are those of the job.
abbrev pub IsReportOf : JobShown → JobFacts → Type 0
IsReportOf job facts =
    (facts.id ≡ job.asked.number)
    × (facts.queue ≡ job.asked.queue)
    × (facts.user ≡ text_in is_user_name job.asked.user)
    × (facts.title ≡ job.asked.title)
    × (Some facts.reason ≡ reason_of job.job_status.reason)
    × (seconds_of facts.held_until ≡ stamp_of job.job_status.hold_until)
    × (facts.copies ≡ job.asked.copies)
    × (facts.priority ≡ job.asked.priority)
    × (facts.size ≡ job.job_status.size)
    × (facts.impressions ≡ job.job_status.pages)
    × (facts.format ≡ option_and_then (text_in is_media_type) job.job_status.media)
    × (reached_at facts.created ≡ reached_by job.times.created)
    × (reached_at facts.started ≡ reached_by job.times.started)
    × (reached_at facts.ended ≡ reached_by job.times.ended)
