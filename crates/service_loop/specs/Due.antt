-- The time as the service knows it, and the jobs that it takes from the table. Moments are in seconds.
use Rattle.std.specs.Prelude.{◌≡◌, ◌↔◌, ℕ, suc, zero, ◌<◌, ◌≤◌, true, List, [], ◌∷◌, Some, IfSome}
use Rattle.std.specs.List.{Contains}
use Rattle.spool_types.specs.Limits.{greatest_moment}
use Rattle.spool_types.specs.State.{State, Job, job_at}
use Rattle.job_table.specs.DueTimes.{due_of, next_due, IsChangedJob}
use Rattle.service_rules.specs.declared.clocks.Clocks.{Clocks}
use Rattle.service_rules.specs.declared.purges.Candidate.{Candidate}
use Rattle.service_loop.specs.declared.maintenance.Maintenance.{Maintenance}

-- The first n of these jobs, all of which have ended, are listed in order, whether a child of them runs or not.
abbrev pub AreListed : ℕ → List ℕ → List Candidate → Type 0
AreListed n [] listed = listed ≡ []
AreListed zero (j ∷ js) listed = listed ≡ []
AreListed (suc n) (j ∷ js) [] = ⊥
AreListed (suc n) (j ∷ js) (c ∷ cs) = (c.id ≡ j) × (c.ended ≡ true) × AreListed n js cs

-- These are the jobs that a Clock of a moment cancels or whose hold it ends. A job may be listed twice.
abbrev pub AreChangedJobs : State → ℕ → List ℕ → Type 0
AreChangedJobs s m jobs = (j : ℕ) → Contains jobs j ↔ IsChangedJob s m j

-- A later moment, before the due moment of each job.
pub record IsQuietUntil (s : State) (m : ℕ) : Type 0 where
  pub later : s.moment < m
  pub at_most : m ≤ greatest_moment
  pub none_due : (j : ℕ) (r : Job) → job_at s j ≡ Some r → IfSome (due_of s r) (λ due. m < due)

-- What maintenance knows of the time, over a table, in a second of the service's time.
abbrev pub clocks_of : Maintenance → State → ℕ → Clocks
clocks_of maintenance s system = record { system = system; table = s.moment; told = maintenance.told; due = maintenance.due }

-- The same after the table was examined.
abbrev pub clocks_found : Maintenance → State → ℕ → Clocks
clocks_found maintenance s system = record { system = system; table = s.moment; told = maintenance.told; due = next_due s }
