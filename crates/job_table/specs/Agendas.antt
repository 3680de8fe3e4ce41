-- The dates of the jobs of a table: the ends of their holds, their retries, and which of them have ended.
use Rattle.std.specs.Prelude.{◌≡◌, ℕ, ◌+◌, ◌<◌, ◌≤◌, Bool, true, false, cond, nat_lt, is_some, List, Option, None, Some}
use Rattle.std.specs.List.{Contains}
use Rattle.spool_types.specs.declared.phase.Phase.{Phase}
use Rattle.spool_types.specs.declared.phase.Phase.TheVariants.{Waiting}
use Rattle.spool_types.specs.declared.phase.Hold.{Hold}
use Rattle.spool_types.specs.declared.phase.Hold.TheVariants.{Until}
use Rattle.spool_types.specs.Phases.{has_ended, hold_of}
use Rattle.spool_types.specs.State.{Job}
use Rattle.queue_sched.specs.Deadlines.{Limits}
use Rattle.queue_sched.specs.declared.deadlines.Deadline.{Deadline}
use Rattle.job_table.specs.Lanes.{AtMost}
use Rattle.job_table.specs.declared.agenda.Agenda.{Agenda}
use Rattle.job_table.specs.declared.agenda.Dates.{Dates}

-- ## The dates of a job

abbrev pub end_of : ℕ → Hold → Option Deadline
end_of j (Until until) = Some (record { by = until; id = j })
end_of j hold = None

-- The end of its hold, if the hold has one.
abbrev pub hold_date : Job → Option Deadline
hold_date r = end_of r.id (hold_of r.phase)

abbrev pub retry_in : ℕ → Phase → Option Deadline
retry_in j (Waiting hold not_before first) = cond (nat_lt 0 not_before) (Some (record { by = not_before; id = j })) None
retry_in j phase = None

-- The moment before which it is not tried, if it waits. No retry is at the moment 0.
abbrev pub retry_date : Job → Option Deadline
retry_date r = retry_in r.id r.phase

-- All jobs that have ended have the same date, so they are in the order of their numbers.
abbrev pub ended_date : Job → Option Deadline
ended_date r = cond (has_ended r.phase) (Some (record { by = 0; id = r.id })) None

abbrev pub dates_of : Job → Dates
dates_of r = record { exists = true; hold = hold_date r; retry = retry_date r; ended = ended_date r }

abbrev pub no_dates : Dates
no_dates = record { exists = false; hold = None; retry = None; ended = None }

abbrev pub dates_found : Option Job → Dates
dates_found None = no_dates
dates_found (Some r) = dates_of r

-- ## All dates

-- The date of a job, of one kind.
abbrev pub date_found : (Job → Option Deadline) → Option Job → Option Deadline
date_found date None = None
date_found date (Some r) = date r

-- The list has the dates of these jobs, of one kind.
pub record AreDates (date : Job → Option Deadline) (jobs : ℕ → Option Job) (items : List Deadline) : Type 0 where
  pub only : (d : Deadline) → Contains items d → date_found date (jobs d.id) ≡ Some d
  pub listed : (j : ℕ) (d : Deadline) → date_found date (jobs j) ≡ Some d → (d.id ≡ j) × Contains items d

-- The agenda has the dates of these jobs, and room for those of each job.
pub record IsAgenda (jobs : ℕ → Option Job) (a : Agenda) : Type 0 where
  pub holds : AreDates hold_date jobs a.holds.items
  pub retries : AreDates retry_date jobs a.retries.items
  pub ended : AreDates ended_date jobs a.ended.items
  pub few : AtMost (λ j. is_some (jobs j)) a.jobs
  pub fits : a.jobs ≤ a.room
  pub holds_room : a.room ≤ a.holds.room
  pub retries_room : a.room ≤ a.retries.room
  pub ended_room : a.room ≤ a.ended.room

abbrev unsorted_list : List Deadline → ℕ → Limits
unsorted_list items room = record { items = items; room = room }

-- The agenda of these dates, not sorted, with this number of jobs.
abbrev pub unsorted_agenda : List Deadline → List Deadline → List Deadline → ℕ → Agenda
unsorted_agenda holds retries ended jobs = record {
  holds = unsorted_list holds jobs;
  retries = unsorted_list retries jobs;
  ended = unsorted_list ended jobs;
  jobs = jobs;
  room = jobs;
}

-- ## A job changes

-- One job has these dates, and all others are as before.
pub record IsRedated (old new : ℕ → Option Job) (j : ℕ) (to : Dates) : Type 0 where
  pub own : dates_found (new j) ≡ to
  pub others : (k : ℕ) → ¬ (k ≡ j) → new k ≡ old k

-- The agenda has the job, whose dates change from `from` to `to`. There is room for a job that appears.
pub record MayRedate (a : Agenda) (j : ℕ) (from to : Dates) : Type 0 where
  pub jobs : ℕ → Option Job
  pub agenda : IsAgenda jobs a
  pub own : dates_found (jobs j) ≡ from
  pub next : Option Job
  pub later : dates_found next ≡ to
  pub number : (r : Job) → next ≡ Some r → r.id ≡ j
  pub room : from.exists ≡ false → a.jobs < a.room

-- A list has a date of the job if `from` is one. There is room for the date of each job.
pub record MayList (list : Limits) (j : ℕ) (from to : Option Deadline) : Type 0 where
  pub date : Job → Option Deadline
  pub jobs : ℕ → Option Job
  pub count : ℕ
  pub dates : AreDates date jobs list.items
  pub own : date_found date (jobs j) ≡ from
  pub number : (d : Deadline) → to ≡ Some d → d.id ≡ j
  pub few : AtMost (λ k. is_some (jobs k)) count
  pub fits : count ≤ list.room
  pub room : is_some (jobs j) ≡ false → count < list.room
