use Rattle.std.proofs.Common.{◌≡◌, ℕ, List, [], ◌∷◌, map, refl, ap, ◌∙◌}
use Rattle.event_records.specs.SeenTimes.{AreSeen, Sight, job_times, last_seen, times_from}
use Rattle.event_records.specs.declared.seen.Seen.{Seen}
use Rattle.event_records.specs.declared.seen.JobTimes.{JobTimes}
use Rattle.event_records.proofs.laws.times_are_folds.Goals as goal

fold : (seen : Seen) (xs : List (Sight × Seen)) → AreSeen seen xs → (job : ℕ) → job_times (last_seen seen xs) job ≡ times_from (job_times seen job) job (map (λ x. x.0) xs)
fold seen [] are job = refl
fold seen (x ∷ xs) (one, are) job = fold x.1 xs are job ∙ ap (λ (t : JobTimes). times_from t job (map (λ (y : Sight × Seen). y.0) xs)) (one job)

pub returns : goal.returns
returns c = fold
