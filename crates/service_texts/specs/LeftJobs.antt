-- The incoming jobs whose clients have disconnected.
use Rattle.std.specs.Prelude.{ℕ, ◌-◌, ◌/◌, ◌==◌, Bool, false, ◌&&◌, not, cond, min, nat_le, List, [], ◌∷◌, ◌++◌, codes, filter, map, Option, None, Some}
use Rattle.std.specs.Fmt.{decimal}
use Rattle.std.specs.List.{count_by, flat_map, list_any}
use Rattle.command_lines.specs.Replies.{counted_line}
use Rattle.spool_types.specs.Phases.{is_incoming}
use Rattle.spool_types.specs.State.{State, Job, job_at}
use Rattle.service_texts.specs.declared.left_jobs.LeftJob.{LeftJob}

abbrev pub is_incoming_row : Option Job → Bool
is_incoming_row None = false
is_incoming_row (Some r) = is_incoming r.phase

abbrev pub is_incoming_at : State → ℕ → Bool
is_incoming_at s job = is_incoming_row (job_at s job)

-- Those that are still incoming.
abbrev pub still_incoming : State → List LeftJob → List LeftJob
still_incoming s left = filter (λ (l : LeftJob). is_incoming_at s l.job) left

-- ## Changes

abbrev pub has_left : List LeftJob → ℕ → Bool
has_left left job = list_any (λ (l : LeftJob). l.job == job) left

-- Its client disconnected at this moment. A job that is not incoming, or was left before, is not added.
abbrev pub with_left : State → List LeftJob → ℕ → ℕ → List LeftJob
with_left s left job since = cond (is_incoming_at s job && not (has_left left job)) (left ++ record { job = job; since = since } ∷ []) left

-- A client sent to the job at this moment.
abbrev pub touched_one : ℕ → ℕ → LeftJob → LeftJob
touched_one job since l = cond (l.job == job) (record l { since = since }) l

abbrev pub touched : List LeftJob → ℕ → ℕ → List LeftJob
touched left job since = map (touched_one job since) left

abbrev pub left_at : ℕ → Job → LeftJob
left_at since r = record { job = r.id; since = since }

-- All incoming jobs, as left at this moment.
abbrev pub all_left : ℕ → List Job → List LeftJob
all_left since jobs = map (left_at since) (filter (λ (r : Job). is_incoming r.phase) jobs)

-- ## The job that waits longest

-- The first job to which nothing was sent after this moment.
abbrev pub left_until : ℕ → List LeftJob → Option ℕ
left_until until [] = None
left_until until (l ∷ ls) = cond (nat_le l.since until) (Some l.job) (left_until until ls)

abbrev pub earlier_of : Option ℕ → ℕ → ℕ
earlier_of None since = since
earlier_of (Some oldest) since = min oldest since

abbrev pub oldest_from : Option ℕ → List LeftJob → Option ℕ
oldest_from oldest [] = oldest
oldest_from oldest (l ∷ ls) = oldest_from (Some (earlier_of oldest l.since)) ls

-- The moment of the last send to the job that waits longest.
abbrev pub oldest_of : List LeftJob → Option ℕ
oldest_of left = oldest_from None left

-- ## The reply

-- The number of a job, and the seconds since its client disconnected or since it was sent to.
abbrev pub left_line : ℕ → LeftJob → List ℕ
left_line now left = codes "incoming " ++ decimal left.job ++ codes " " ++ decimal ((now - left.since) / 1000) ++ codes "\n"

-- The line of a job that is still incoming.
abbrev pub still_line : ℕ → State → LeftJob → List ℕ
still_line now s left = cond (is_incoming_at s left.job) (left_line now left) []

abbrev pub still_lines : ℕ → State → List LeftJob → List ℕ
still_lines now s left = flat_map (still_line now s) left

abbrev pub still_count : State → List LeftJob → ℕ
still_count s left = count_by (λ (l : LeftJob). is_incoming_at s l.job) left

-- At a moment in milliseconds.
abbrev pub incoming_text : ℕ → State → List LeftJob → List ℕ
incoming_text now s left = still_lines now s left ++ counted_line (still_count s left)
