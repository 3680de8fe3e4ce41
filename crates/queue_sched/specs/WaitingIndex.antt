-- The index of a queue's waiting jobs, as its callers see it.
use Rattle.std.specs.Prelude.{◌≡◌, ℕ, Bool, false, ◌&&◌, List, IsTrue}
use Rattle.std.specs.List.{Contains, AllPairs}
use Rattle.spool_types.specs.declared.phase.Phase.{Phase}
use Rattle.spool_types.specs.declared.phase.Phase.TheVariants.{Waiting}
use Rattle.spool_types.specs.Busy.{is_of}
use Rattle.spool_types.specs.Phases.{is_waiting, hold_of}
use Rattle.spool_types.specs.State.{Job}
use Rattle.queue_sched.specs.Next.{may_start, is_marked, goes_first}
use Rattle.queue_sched.specs.declared.entry.Entry.{Entry}

-- A waiting job is not tried before this moment.
abbrev pub not_before_of : Phase → ℕ
not_before_of (Waiting hold not_before first) = not_before
not_before_of phase = 0

-- The fields of a waiting job that determine its order and its start.
abbrev pub entry_of : Job → Entry
entry_of r = record {
  id = r.id;
  first = is_marked r.phase;
  priority = r.priority;
  hold = hold_of r.phase;
  not_before = not_before_of r.phase;
}

abbrev pub goes_before : Entry → Entry → Bool
goes_before e f = goes_first e.first e.priority e.id f.first f.priority f.id

abbrev pub is_startable : ℕ → Entry → Bool
is_startable now e = may_start now e.hold e.not_before

-- The waiting jobs in order, the current moment, and the number of jobs that fit without allocating.
pub record Waits : Type 0 where
  pub items : List Entry
  pub moment : ℕ
  pub room : ℕ

-- Each entry comes before all later ones.
abbrev pub InOrder : List Entry → Type 0
InOrder items = AllPairs (λ e f. IsTrue (goes_before e f)) items

-- No entry is that of this job.
abbrev pub LacksJob : List Entry → ℕ → Type 0
LacksJob items j = (e : Entry) → Contains items e → ¬ (e.id ≡ j)

-- No two entries are those of the same job.
abbrev pub HasEachOnce : List Entry → Type 0
HasEachOnce items = AllPairs (λ e f. ¬ (e.id ≡ f.id)) items

-- The first entry that may be started now.
pub record IsFirstStartable (w : Waits) (e : Entry) : Type 0 where
  pub there : Contains w.items e
  pub startable : IsTrue (is_startable w.moment e)
  pub first : (f : Entry) → Contains w.items f → IsTrue (is_startable w.moment f) → ¬ (IsTrue (goes_before f e))

abbrev pub NoneIsStartable : Waits → Type 0
NoneIsStartable w = (e : Entry) → Contains w.items e → is_startable w.moment e ≡ false

-- A waiting job of the queue.
abbrev pub is_waiting_of : List ℕ → Job → Bool
is_waiting_of name r = is_of name r && is_waiting r.phase

-- The entries are exactly those of the queue's waiting jobs.
pub record IsIndexOf (jobs : List Job) (name : List ℕ) (items : List Entry) : Type 0 where
  pub only : (e : Entry) → Contains items e → (r : Job) × Contains jobs r × IsTrue (is_waiting_of name r) × (e ≡ entry_of r)
  pub each : (r : Job) → Contains jobs r → IsTrue (is_waiting_of name r) → Contains items (entry_of r)
