-- Stages of attempts: the stage that a job is in, and the stages that no later event brings.
use Rattle.std.specs.Prelude.{◌≡◌, ◌⊎◌, ◌<◌, ◌≤◌, ℕ, IsTrue, Option, None, Some}
use Rattle.spool_types.specs.declared.event.StageEnd.{StageEnd}
use Rattle.spool_types.specs.declared.phase.Phase.{Phase}
use Rattle.spool_types.specs.declared.phase.Phase.TheVariants.{Incoming, Waiting, Processing, Completed, Canceled, Aborted}
use Rattle.spool_types.specs.Phases.{has_ended}
use Rattle.spool_types.specs.State.{State, Job, job_at}

-- A stage of an attempt at a job.
pub record Key : Type 0 where
  pub job : ℕ
  pub attempt : ℕ
  pub stage : ℕ

-- The stage whose end the event reports.
abbrev pub key_of : StageEnd → Key
key_of e = record { job = e.job; attempt = e.attempt; stage = e.stage }

-- The attempt is in this stage or a lower one.
abbrev pub IsUpTo : ℕ → Phase → Type 0
IsUpTo stage (Processing attempt at stages) = at ≤ stage
IsUpTo stage (Incoming hold) = ⊥
IsUpTo stage (Waiting hold not_before first) = ⊥
IsUpTo stage Completed = ⊥
IsUpTo stage Canceled = ⊥
IsUpTo stage (Aborted reason) = ⊥

-- The job has ended, or had a later attempt, or its last attempt is this one and is neither in this stage nor in a
-- lower one.
abbrev pub IsSpentOf : Key → Job → Type 0
IsSpentOf k r = IsTrue (has_ended r.phase) ⊎ ((k.attempt < r.attempts) ⊎ ((r.attempts ≡ k.attempt) × ¬ (IsUpTo k.stage r.phase)))

-- No job has the number, and the number is at most the highest assigned.
abbrev pub IsSpentBy : ℕ → Key → Option Job → Type 0
IsSpentBy highest k None = k.job ≤ highest
IsSpentBy highest k (Some r) = IsSpentOf k r

-- No later event brings this stage of this attempt.
abbrev pub IsSpent : State → Key → Type 0
IsSpent s k = IsSpentBy s.highest k (job_at s k.job)

-- The table has the job in that stage of that attempt.
pub record IsIn (s : State) (k : Key) : Type 0 where
  pub row : Job
  pub stages : ℕ
  pub there : job_at s k.job ≡ Some row
  pub phase : row.phase ≡ Processing k.attempt k.stage stages
