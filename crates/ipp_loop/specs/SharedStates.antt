-- The state that all clients share.
use Rattle.std.specs.Prelude.{◌≡◌, ℕ, ◌+◌, Bool, false, cond, nat_lt, List, [], ◌∷◌, drop, length, map, Option, None}
use Rattle.std.specs.Option.{option_map}
use Rattle.ipp_submission.specs.JobParts.{Progress, current, is_ended}
use Rattle.ipp_printing.specs.PrintingJobs.{submission_of}
use Rattle.ipp_tasks.specs.ParkedJobs.{count_of}
use Rattle.ipp_loop.specs.declared.lost.LostJobs.{LostJobs}
use Rattle.ipp_loop.specs.declared.shared.Shared.{Shared}

-- The service has not answered for more than 30 seconds.
abbrev pub is_away : {S : Type 0} → Shared S → Bool
is_away shared = nat_lt (shared.heard + 30000) shared.millis

-- The jobs that wait for their next request.
abbrev pub parked_count : {S : Type 0} → Shared S → ℕ
parked_count shared = count_of shared.parked

-- The command of the first lost job, if it is not sent yet.
abbrev pub unsent_of : LostJobs → Option (List ℕ)
unsent_of lost = cond lost.is_sent None (option_map (λ command. command.items) lost.command)

-- The submissions of the lost jobs, in their order.
abbrev pub submissions : LostJobs → List Progress
submissions lost = map submission_of lost.jobs.items

-- The number of lost jobs is the same, and only the first of them may have changed.
pub record KeepsLost (old new : LostJobs) : Type 0 where
  pub count : length new.jobs.items ≡ length old.jobs.items
  pub others : drop 1 new.jobs.items ≡ drop 1 old.jobs.items

-- Nothing more happens to the first of them.
abbrev pub starts_ended : List Progress → Bool
starts_ended [] = false
starts_ended (p ∷ ps) = is_ended (current p)
