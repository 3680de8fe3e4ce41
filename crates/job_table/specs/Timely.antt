-- The waiting jobs that must start by a moment.
use Rattle.std.specs.Prelude.{◌≡◌, ℕ, ◌<◌, ◌≤◌, Bool, true, false, cond, List, is_some, Option, None, Some}
use Rattle.std.specs.Option.{option_map}
use Rattle.std.specs.List.{Contains}
use Rattle.spool_types.specs.Phases.{is_waiting}
use Rattle.spool_types.specs.State.{Job}
use Rattle.queue_sched.specs.declared.deadlines.Deadline.{Deadline}
use Rattle.job_table.specs.Lanes.{AtMost}
use Rattle.job_table.specs.declared.timetable.Timetable.{Timetable}

-- ## The deadline of a job

-- A job has a deadline if it is waiting and must start by a moment.
abbrev pub deadline_of : Job → Option Deadline
deadline_of r = cond (is_waiting r.phase) (option_map (λ by. record { by = by; id = r.id }) r.by) None

abbrev pub deadline_found : Option Job → Option Deadline
deadline_found None = None
deadline_found (Some r) = deadline_of r

-- The job must start by a moment, whatever its phase.
abbrev pub has_by : Option Job → Bool
has_by None = false
has_by (Some r) = is_some r.by

-- ## All deadlines

-- The timetable has the deadlines of these jobs, and room for the deadline of each job that must start by a moment.
pub record IsTimely (jobs : ℕ → Option Job) (t : Timetable) : Type 0 where
  pub only : (d : Deadline) → Contains t.deadlines.items d → deadline_found (jobs d.id) ≡ Some d
  pub listed : (j : ℕ) (d : Deadline) → deadline_found (jobs j) ≡ Some d → (d.id ≡ j) × Contains t.deadlines.items d
  pub few : AtMost (λ j. has_by (jobs j)) t.timed
  pub room : t.timed ≤ t.deadlines.room

-- The timetable of these deadlines, not sorted, with `timed` jobs that must start by a moment.
abbrev pub unsorted : List Deadline → ℕ → Timetable
unsorted deadlines timed = record { deadlines = record { items = deadlines; room = timed }; timed = timed }

-- A new job that is not waiting is added. `timed` says whether it must start by a moment.
pub record IsAdmitted (old new : ℕ → Option Job) (j : ℕ) (timed : Bool) : Type 0 where
  pub absent : old j ≡ None
  pub own : deadline_found (new j) ≡ None
  pub by : has_by (new j) ≡ timed
  pub others : (k : ℕ) → ¬ (k ≡ j) → new k ≡ old k

-- A job without a deadline is removed. `timed` says whether it had to start by a moment.
pub record IsDismissed (old new : ℕ → Option Job) (j : ℕ) (timed : Bool) : Type 0 where
  pub own : deadline_found (old j) ≡ None
  pub by : has_by (old j) ≡ timed
  pub absent : new j ≡ None
  pub others : (k : ℕ) → ¬ (k ≡ j) → new k ≡ old k

-- A job that had to start by a moment is one of the jobs that the timetable counts.
abbrev pub MayDismiss : Timetable → Bool → Type 0
MayDismiss t timed = timed ≡ true → 0 < t.timed

-- One job has this deadline, and the deadlines of all others are as before. Each job must start by a moment as before.
pub record IsRetimed (old new : ℕ → Option Job) (j : ℕ) (to : Option Deadline) : Type 0 where
  pub own : deadline_found (new j) ≡ to
  pub others : (k : ℕ) → ¬ (k ≡ j) → deadline_found (new k) ≡ deadline_found (old k)
  pub timed : (k : ℕ) → has_by (new k) ≡ has_by (old k)

-- The timetable has the job, whose deadline changes from `from` to `to`. At most one of the two exists, or both are the
-- same.
pub record MayRetime (t : Timetable) (j : ℕ) (from to : Option Deadline) : Type 0 where
  pub jobs : ℕ → Option Job
  pub timely : IsTimely jobs t
  pub own : deadline_found (jobs j) ≡ from
  pub number : (d : Deadline) → to ≡ Some d → (d.id ≡ j) × (has_by (jobs j) ≡ true)
  pub same : (d e : Deadline) → from ≡ Some d → to ≡ Some e → d ≡ e
