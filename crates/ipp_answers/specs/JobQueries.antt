-- The jobs that a request Get-Jobs asks for (RFC 8011, 4.2.6.1).
use Rattle.std.specs.Prelude.{ℕ, ◌-◌, Bool, true, false, ◌&&◌, nat_le, List, filter, take, drop, Option, None, Some, option_map}
use Rattle.requested_attributes.specs.AttributeGroups.{is_same}
use Rattle.ipp_answers.specs.JobStates.{state_by}
use Rattle.ipp_answers.specs.WhichJobs.{takes_state}
use Rattle.ipp_answers.specs.declared.facts.JobFacts.{JobFacts}
use Rattle.ipp_answers.specs.declared.queries.JobQuery.{JobQuery}

-- The job is in the queue, if the target is one.
abbrev pub is_of_queue : Option (List ℕ) → List ℕ → Bool
is_of_queue None queue = true
is_of_queue (Some wanted) queue = is_same wanted queue

-- The job is the user's, if only the user's jobs are asked for. A job whose owner is hidden is not.
abbrev pub is_of_user : Option (List ℕ) → Option (List ℕ) → Bool
is_of_user None user = true
is_of_user (Some wanted) None = false
is_of_user (Some wanted) (Some user) = is_same wanted user

abbrev pub is_from : Option ℕ → ℕ → Bool
is_from None id = true
is_from (Some first) id = nat_le first id

abbrev pub is_asked : JobQuery → JobFacts → Bool
is_asked q j =
    is_of_queue (option_map (λ queue. queue.now) q.queue) j.queue
    && takes_state q.which (state_by j.reason)
    && is_of_user (option_map (λ user. user.now) q.user) j.user
    && is_from q.first_id j.id

-- How many of the jobs that match precede those of the answer.
abbrev pub skipped_by : Option ℕ → ℕ
skipped_by None = 0
skipped_by (Some index) = index - 1

abbrev pub limited : {T : Type 0} → Option ℕ → List T → List T
limited None jobs = jobs
limited (Some limit) jobs = take limit jobs

-- The jobs from the first index on, up to the limit.
abbrev pub page_of : {T : Type 0} → JobQuery → List T → List T
page_of q jobs = limited q.limit (drop (skipped_by q.first_index) jobs)

-- The jobs that match, in their order: those of the page.
abbrev pub selected : JobQuery → List JobFacts → List JobFacts
selected q jobs = page_of q (filter (is_asked q) jobs)
