use Rattle.std.proofs.Common.{◌≡◌, ℕ, Bool, true, false, List, None, Some, inl, inr, refl}
use Rattle.std.specs.Prelude.{◌⊎◌}
use Rattle.spool_types.specs.State.{State, Job, job_at}
use Rattle.split_rows.specs.Half.{takes}
use Rattle.job_table.specs.Legal.{IsLegal}
use Rattle.spool_halves.specs.Halves.{IsHalf}
use Rattle.spool_halves.proofs.Halves.{job_absent, job_from, job_to, other_half, queue_from, queue_same}
use Rattle.spool_halves.proofs.laws.each_row_in_one_half.Goals as goal

module _ (names : List (List ℕ)) (s t u : State) (j : ℕ) (r : Job) (legal_s : IsLegal s) (legal_t : IsLegal t) (legal_u : IsLegal u) (one : IsHalf true names s t) (other : IsHalf false names s u) (at : job_at s j ≡ Some r) where
  either : (b : Bool) → takes true names r.queue ≡ b → ((job_at t j ≡ Some r) × (job_at u j ≡ None)) ⊎ ((job_at t j ≡ None) × (job_at u j ≡ Some r))
  either true is = inl (job_to true names s t legal_s legal_t one j r at is, job_absent false names s u legal_s legal_u other j r at (other_half names r.queue true is))
  either false is = inr (job_absent true names s t legal_s legal_t one j r at is, job_to false names s u legal_s legal_u other j r at (other_half names r.queue false is))

pub returns : goal.returns
returns c = record {
  jobs = λ names s t u j r ls lt lu one other at. either names s t u j r ls lt lu one other at (takes true names r.queue) refl;
  no_others = λ named names s t j r ls lt half at. job_from named names s t ls lt half j r at;
  queues = λ named names s t name ls lt half own. queue_same named names s t ls lt half name own;
  no_other_queues = λ named names s t name q ls lt half at. queue_from named names s t ls lt half name q at;
}
