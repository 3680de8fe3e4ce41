-- The possible effects of an event on a job.
use Rattle.std.proofs.Common.{◌≡◌, ◌⊎◌, inl, inr, ℕ, ◌<◌, List, Some, None, Option, IsTrue, refl, arith}
use Rattle.job_table.specs.Attempts.{next_stage, ruled}
use Rattle.job_table.specs.EventChanges.{closed}
use Rattle.job_table.specs.Stages.{IsUpTo}
use Rattle.spool_types.specs.declared.event.Closing.{Closing}
use Rattle.spool_types.specs.declared.phase.Hold.{Hold as Held}
use Rattle.spool_types.specs.declared.phase.Phase.{Phase}
use Rattle.spool_types.specs.declared.phase.Phase.TheVariants.{Incoming, Waiting, Processing, Completed, Canceled, Aborted}
use Rattle.spool_types.specs.Phases.{has_ended, with_hold}
use Rattle.spool_types.specs.State.{Job}
use Rattle.backend_codes.specs.declared.verdicts.Verdict.{Verdict}
use Rattle.backend_codes.specs.declared.verdicts.Verdict.TheVariants as verdicts

-- The job keeps its number, its queue, and the moment by which it must start.
pub record IsSameJob (r q : Job) : Type 0 where
  pub id : q.id ≡ r.id
  pub queue : q.queue ≡ r.queue
  pub by : q.by ≡ r.by

-- ## Rows that follow a row

-- If the second is processing, the first is in the same stage or a lower one.
abbrev pub Goes : Phase → Phase → Type 0
Goes p x = (stage : ℕ) → IsUpTo stage x → IsUpTo stage p

-- A job with this number of attempts, in this phase, may turn into this job.
abbrev pub Follows : ℕ → Phase → Job → Type 0
Follows attempts p x = IsTrue (has_ended x.phase) ⊎ ((attempts < x.attempts) ⊎ ((x.attempts ≡ attempts) × Goes p x.phase))

pub in_place : (r : Job) → Follows r.attempts r.phase r
in_place r = inr (inr (refl, λ stage up. up))

next_goes : (p : Phase) → Goes p (next_stage p)
next_goes (Incoming hold) = λ stage up. up
next_goes (Waiting hold not_before first) = λ stage up. up
next_goes (Processing attempt at stages) = λ stage up. omega (arith, up)
next_goes Completed = λ stage up. up
next_goes Canceled = λ stage up. up
next_goes (Aborted reason) = λ stage up. up

pub held_goes : (hold : Held) (p : Phase) → Goes p (with_hold hold p)
held_goes hold (Incoming before) = λ stage up. up
held_goes hold (Waiting before not_before first) = λ stage up. up
held_goes hold (Processing attempt at stages) = λ stage up. up
held_goes hold Completed = λ stage up. up
held_goes hold Canceled = λ stage up. up
held_goes hold (Aborted reason) = λ stage up. up

pub ruled_follows : (now interval : ℕ) (v : Verdict) (r : Job) → Follows r.attempts r.phase (ruled now interval v r)
ruled_follows now interval verdicts.NextStage r = inr (inr (refl, next_goes r.phase))
ruled_follows now interval verdicts.Completed r = inl refl
ruled_follows now interval (verdicts.Aborted reason) r = inl refl
ruled_follows now interval verdicts.Canceled r = inl refl
ruled_follows now interval (verdicts.Held reason) r = inr (inr (refl, λ stage up. absurd up))
ruled_follows now interval verdicts.StopQueue r = inr (inr (refl, λ stage up. absurd up))
ruled_follows now interval verdicts.RetryAt r = inr (inr (refl, λ stage up. absurd up))
ruled_follows now interval verdicts.RetryFirst r = inr (inr (refl, λ stage up. absurd up))

pub closed_follows : (c : Closing) (filters : Option (List (List ℕ))) → c.filters ≡ filters → (r : Job) → Follows r.attempts r.phase (closed (record c { filters = filters }) r)
closed_follows c None is r = inl refl
closed_follows c (Some filters) is r = inr (inr (refl, λ stage up. absurd up))

pub closed_same : (c : Closing) (r : Job) → IsSameJob r (closed c r)
closed_same c r = by_filters c.filters refl
  where
    by_filters : (o : Option (List (List ℕ))) → c.filters ≡ o → IsSameJob r (closed c r)
    by_filters None is = rw is (record { id = refl; queue = refl; by = refl })
    by_filters (Some filters) is = rw is (record { id = refl; queue = refl; by = refl })
