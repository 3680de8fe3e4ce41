-- Which jobs the service purges.
use Rattle.std.specs.Prelude.{◌≡◌, ℕ, ◌-◌, ◌<◌, ◌≤◌, zero, suc, min, Bool, false, cond, not, ◌&&◌, nat_lt, List, [], ◌∷◌, map, take, filter}
use Rattle.std.specs.List.{Contains}
use Rattle.service_rules.specs.declared.purges.Candidate.{Candidate}
use Rattle.service_rules.specs.Bounds.{most_purges}

-- A job that has ended and has no running child.
abbrev pub is_purgeable : Candidate → Bool
is_purgeable job = job.ended && not job.runs

-- How many jobs are purged in a turn, given how many have ended and how many are retained.
abbrev pub purge_count : ℕ → ℕ → ℕ
purge_count ended keep = min (ended - keep) most_purges

-- The numbers of the first `count` purgeable jobs.
abbrev pub purged : ℕ → List Candidate → List ℕ
purged count jobs = take count (map (λ (job : Candidate). job.id) (filter is_purgeable jobs))

-- The jobs with numbers above this one.
abbrev pub above : ℕ → List Candidate → List Candidate
above cursor jobs = filter (λ job. nat_lt cursor job.id) jobs

-- No job up to this number may be purged.
abbrev pub IsSweptTo : ℕ → List Candidate → Type 0
IsSweptTo cursor jobs = (job : Candidate) → Contains jobs job → job.id ≤ cursor → is_purgeable job ≡ false

-- The number of the last job before the first purgeable one that remains, after the first `count` were returned. Jobs up to it need no
-- further check.
abbrev pub swept_to : ℕ → ℕ → List Candidate → ℕ
swept_to cursor count [] = cursor
swept_to cursor zero (job ∷ jobs) = cond (is_purgeable job) cursor (swept_to job.id 0 jobs)
swept_to cursor (suc count) (job ∷ jobs) = swept_to job.id (cond (is_purgeable job) count (suc count)) jobs

-- The numbers ascend, and are all above this one.
abbrev pub RisesFrom : ℕ → List Candidate → Type 0
RisesFrom cursor [] = Unit {0}
RisesFrom cursor (job ∷ jobs) = (cursor < job.id) × RisesFrom job.id jobs
