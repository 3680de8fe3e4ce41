-- A queue's part of a table, and the queue's own events.
use Rattle.std.specs.Prelude.{◌≡◌, ℕ, ◌≤◌, Bool, true, false, cond, nat_eq, ◌==◌, List, [], ◌∷◌, filter, Option, None, Some, IsSome}
use Rattle.std.specs.Cmp.Lexicographic.{pointwise}
use Rattle.std.specs.List.{list_any}
use Rattle.spool_types.specs.declared.event.Event.{Event}
use Rattle.spool_types.specs.declared.rows.QueueRow.{QueueRow}
use Rattle.spool_types.specs.declared.version.Version.{Version}
use Rattle.spool_types.specs.Busy.{is_of}
use Rattle.spool_types.specs.State.{State, Job, nothing_in, queue_at, job_at}
use Rattle.job_table.specs.EventFold.{after_one, after_all, accepted}
use Rattle.job_table.specs.Shapes.{Change, NewQueueRow, OfQueue, NewJobRow, OfJob, OfBoth, WithoutJob, OfClock, OfAll}
use Rattle.job_table.specs.Step.{change_by}

-- ## The rows

-- The job that was found, if it belongs to the queue.
abbrev pub own_of : List ℕ → Option Job → Option Job
own_of name None = None
own_of name (Some r) = cond (is_of name r) (Some r) None

-- The row of a queue, and for each number the job, if it belongs to the queue.
pub record Rows : Type 0 where
  pub queue : Option QueueRow
  pub jobs : ℕ → Option Job

abbrev pub rows_of : State → List ℕ → Rows
rows_of s name = record { queue = queue_at s name; jobs = λ j. own_of name (job_at s j) }

-- The second table has only the queue's row and its jobs of the first table.
pub record IsPart (name : List ℕ) (s t : State) : Type 0 where
  pub queue : queue_at t name ≡ queue_at s name
  pub only : (other : List ℕ) → IsSome (queue_at t other) → other ≡ name
  pub jobs : (j : ℕ) → job_at t j ≡ own_of name (job_at s j)
  pub moment : t.moment ≡ s.moment
  pub version : t.version ≡ s.version
  pub highest : t.highest ≤ s.highest

-- ## The events

-- The change names the queue, or a job that passes this test. The clock and a reopening concern every queue.
abbrev pub names_it : List ℕ → (ℕ → Bool) → Change → Bool
names_it name is_its (NewQueueRow q) = pointwise nat_eq q.name name
names_it name is_its (OfQueue queue f) = pointwise nat_eq queue name
names_it name is_its (NewJobRow r) = is_of name r
names_it name is_its (OfJob j f) = is_its j
names_it name is_its (OfBoth j effects verdict) = is_its j
names_it name is_its (WithoutJob j) = is_its j
names_it name is_its (OfClock m) = true
names_it name is_its OfAll = true

-- The job that a change creates.
abbrev pub job_made : Change → Option Job
job_made (NewJobRow r) = Some r
job_made change = None

abbrev pub with_number : List ℕ → Option Job → List ℕ → List ℕ
with_number name None js = js
with_number name (Some r) js = cond (is_of name r) (r.id ∷ js) js

-- The numbers that the events assign to jobs of the queue.
abbrev pub numbers_of : List ℕ → List Event → List ℕ
numbers_of name [] = []
numbers_of name (e ∷ es) = with_number name (job_made (change_by e)) (numbers_of name es)

abbrev pub is_in : ℕ → List ℕ → Bool
is_in j js = list_any (λ k. k == j) js

-- The event names the queue or a job of one of these numbers, or concerns every queue.
abbrev pub is_about : List ℕ → List ℕ → Event → Bool
is_about name js e = names_it name (λ j. is_in j js) (change_by e)

-- Of: the events that name the queue or a job of it, all Clock events and all reopenings.
abbrev pub events_of : List ℕ → List Event → List Event
events_of name es = filter (is_about name (numbers_of name es)) es

-- ## Two tables

-- The table after a list of events, and the table after the queue's own events of that list.
abbrev pub whole_table : Version → List Event → State
whole_table version es = after_all (nothing_in version) (accepted (nothing_in version) es)

abbrev pub own_table : Version → List Event → List ℕ → State
own_table version es name = after_all (nothing_in version) (events_of name (accepted (nothing_in version) es))

-- The event names the queue or a job that was assigned to it, or concerns every queue.
abbrev pub is_own_event : Version → List Event → List ℕ → Event → Bool
is_own_event version es name e = is_about name (numbers_of name (accepted (nothing_in version) es)) e

-- ## Starting from any table

abbrev pub is_own_job : List ℕ → Option Job → Bool
is_own_job name None = false
is_own_job name (Some r) = is_of name r

-- The event names the queue or a job that the table has in it, or concerns every queue.
abbrev pub is_own : State → List ℕ → Event → Bool
is_own s name e = names_it name (λ j. is_own_job name (job_at s j)) (change_by e)

abbrev pub if_own : Event → List Event → Bool → List Event
if_own e es true = e ∷ es
if_own e es false = es

-- The queue's own events of a list. Each event is tested by the table before it.
abbrev pub own_events : State → List ℕ → List Event → List Event
own_events s name [] = []
own_events s name (e ∷ es) = if_own e (own_events (after_one s e) name es) (is_own s name e)
