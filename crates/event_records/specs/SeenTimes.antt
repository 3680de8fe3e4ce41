-- When a job was created, closed, first started and ended, and when a queue last changed, as far as this was seen.
use Rattle.std.specs.Prelude.{◌≡◌, ◌⊎◌, ℕ, Bool, false, ◌==◌, cond, List, [], ◌∷◌, Option, None, Some, unwrap_or, true}
use Rattle.std.specs.BTreeMap.{get}
use Rattle.std.specs.Cmp.Lexicographic.{slice_cmp}
use Rattle.std.specs.Ordering.{eq_by_cmp, nat_cmp}
use Rattle.spool_types.specs.Phases.{has_ended}
use Rattle.spool_types.specs.State.{Job}
use Rattle.event_records.specs.declared.deeds.JobDeed.{JobDeed}
use Rattle.event_records.specs.declared.deeds.JobDeed.TheVariants as jobs
use Rattle.event_records.specs.declared.seen.JobTimes.{JobTimes}
use Rattle.event_records.specs.declared.seen.Seen.{Seen}

abbrev pub nothing_seen : JobTimes
nothing_seen = record { created = None; closed = None; started = None; ended = None }

-- An accepted event about a job: what it did, the job's row after it, and the moment, if it is known.
pub record Sight : Type 0 where
  pub job : ℕ
  pub deed : JobDeed
  pub row : Option Job
  pub now : Option ℕ

-- The row is that of a first attempt.
abbrev pub is_first : Option Job → Bool
is_first None = false
is_first (Some r) = r.attempts == 1

abbrev pub is_over : Option Job → Bool
is_over None = false
is_over (Some r) = has_ended r.phase

abbrev pub if_so : Bool → Option ℕ → Option ℕ → Option ℕ
if_so is now before = cond is now before

-- The times of a job with the end, if it has ended.
abbrev pub with_end : JobTimes → Option Job → Option ℕ → JobTimes
with_end t row now = record t { ended = if_so (is_over row) now t.ended }

-- The times of a job after an event. A start is the first one if it begins the first attempt. A purge removes them.
abbrev pub times_after : JobTimes → JobDeed → Option Job → Option ℕ → JobTimes
times_after t jobs.Created row now = with_end (record t { created = now }) row now
times_after t jobs.Sent row now = with_end t row now
times_after t jobs.Closed row now = with_end (record t { closed = now }) row now
times_after t jobs.Held row now = with_end t row now
times_after t jobs.Released row now = with_end t row now
times_after t jobs.Canceled row now = with_end t row now
times_after t jobs.Interrupted row now = with_end t row now
times_after t jobs.Started row now = with_end (record t { started = if_so (is_first row) now t.started }) row now
times_after t jobs.Ended row now = with_end t row now
times_after t jobs.Abandoned row now = with_end t row now
times_after t jobs.Due row now = with_end t row now
times_after t jobs.Purged row now = nothing_seen

-- The times of a job after an event that may be about another one.
abbrev pub times_by : JobTimes → ℕ → Sight → JobTimes
times_by t job sight = cond (sight.job == job) (times_after t sight.deed sight.row sight.now) t

-- The times of a job after these events.
abbrev pub times_from : JobTimes → ℕ → List Sight → JobTimes
times_from t job [] = t
times_from t job (x ∷ xs) = times_from (times_by t job x) job xs

-- The times that are stored.
abbrev pub job_times : Seen → ℕ → JobTimes
job_times seen job = unwrap_or (get nat_cmp seen.jobs job) nothing_seen

abbrev pub queue_time : Seen → List ℕ → Option ℕ
queue_time seen name = get (slice_cmp nat_cmp) seen.queues name

-- The event was recorded. If memory ran out, nothing was known of its job, and nothing is.
abbrev pub HasSeen : Seen → Sight → Seen → Type 0
HasSeen old sight new =
    ((job : ℕ) → job_times new job ≡ times_by (job_times old job) job sight) ⊎ ((job_times old sight.job ≡ nothing_seen) × ((job : ℕ) → job_times new job ≡ job_times old job))

-- ## Queues

abbrev pub queue_time_by : Option ℕ → List ℕ → List ℕ → Option ℕ → Option ℕ
queue_time_by before name changed now = cond (eq_by_cmp (slice_cmp nat_cmp) changed name) now before

-- The moment of the queue's change was recorded. If memory ran out, it is unknown.
abbrev pub HasSeenQueue : Seen → List ℕ → Option ℕ → Seen → Type 0
HasSeenQueue old changed now new =
    ((name : List ℕ) → queue_time new name ≡ queue_time_by (queue_time old name) name changed now) ⊎ ((name : List ℕ) → queue_time new name ≡ queue_time_by (queue_time old name) name changed None)

-- ## Many events

-- Each of these events was recorded, and these are the times after each.
abbrev pub AreSeen : Seen → List (Sight × Seen) → Type 0
AreSeen seen [] = Unit {0}
AreSeen seen (x ∷ xs) = ((job : ℕ) → job_times x.1 job ≡ times_by (job_times seen job) job x.0) × AreSeen x.1 xs

abbrev pub last_seen : Seen → List (Sight × Seen) → Seen
last_seen seen [] = seen
last_seen seen (x ∷ xs) = last_seen x.1 xs
