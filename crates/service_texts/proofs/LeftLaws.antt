-- Left jobs that are still incoming.
use Rattle.std.proofs.Common.{◌≡◌, ℕ, Bool, true, false, ◌&&◌, not, cond, List, [], ◌∷◌, ◌++◌, refl, sym, ap, ◌∙◌}
use Rattle.std.proofs.lemmas.Bool.{eqb-true}
use Rattle.std.proofs.lemmas.List.Elements.{filter-append}
use Rattle.std.proofs.lemmas.Map.Views.{any-filter_same}
use Rattle.spool_types.specs.State.{State}
use Rattle.service_texts.specs.LeftJobs.{has_left, is_incoming_at, still_incoming, with_left}
use Rattle.service_texts.specs.declared.left_jobs.LeftJob.{LeftJob}

-- Those that are still incoming are all so.
pub still_twice : (s : State) (left : List LeftJob) → still_incoming s (still_incoming s left) ≡ still_incoming s left
still_twice s [] = refl
still_twice s (l ∷ ls) = by_test (is_incoming_at s l.job) refl (still_twice s ls)
  where
    by_test : (b : Bool) → is_incoming_at s l.job ≡ b → still_incoming s (still_incoming s ls) ≡ still_incoming s ls → still_incoming s (cond b (l ∷ still_incoming s ls) (still_incoming s ls)) ≡ cond b (l ∷ still_incoming s ls) (still_incoming s ls)
    by_test true is rest = ap (λ b. cond b (l ∷ still_incoming s (still_incoming s ls)) (still_incoming s (still_incoming s ls))) is ∙ ap (λ more. l ∷ more) rest
    by_test false is rest = rest

-- A job that is incoming is among those that are still incoming if it was left.
still_has : (s : State) (left : List LeftJob) (job : ℕ) → has_left (still_incoming s left) job ≡ (is_incoming_at s job && has_left left job)
still_has s left job = any-filter_same _ _ _ (λ (l : LeftJob) same. ap (is_incoming_at s) (eqb-true l.job job same)) left

-- A job is added if it is incoming and was not left.
is_added : (s : State) (left : List LeftJob) (job : ℕ) → (is_incoming_at s job && not (has_left (still_incoming s left) job)) ≡ (is_incoming_at s job && not (has_left left job))
is_added s left job = ap (λ h. is_incoming_at s job && not h) (still_has s left job) ∙ by_test (is_incoming_at s job)
  where
    by_test : (b : Bool) → (b && not (b && has_left left job)) ≡ (b && not (has_left left job))
    by_test true = refl
    by_test false = refl

module _ (s : State) (left : List LeftJob) (job since : ℕ) where
  as_left : (b : Bool) → (is_incoming_at s job && not (has_left left job)) ≡ b → with_left s (still_incoming s left) job since ≡ cond b (still_incoming s left ++ record { job = job; since = since } ∷ []) (still_incoming s left)
  as_left b is = ap (λ v. cond v (still_incoming s left ++ record { job = job; since = since } ∷ []) (still_incoming s left)) (is_added s left job ∙ is)

  pub not_incoming : is_incoming_at s job ≡ false → still_incoming s left ≡ with_left s (still_incoming s left) job since
  not_incoming is = sym (as_left false (ap (λ b. b && not (has_left left job)) is))

  pub left_before : is_incoming_at s job ≡ true → has_left left job ≡ true → still_incoming s left ≡ with_left s (still_incoming s left) job since
  left_before is has = sym (as_left false (ap (λ b. b && not (has_left left job)) is ∙ ap not has))

  pub left_now : (roomy : List LeftJob) → still_incoming s roomy ≡ still_incoming s left → is_incoming_at s job ≡ true → has_left left job ≡ false
      → still_incoming s (roomy ++ record { job = job; since = since } ∷ []) ≡ with_left s (still_incoming s left) job since
  left_now roomy same is has =
      filter-append (λ (l : LeftJob). is_incoming_at s l.job) roomy (record { job = job; since = since } ∷ [])
      ∙ ap (λ rest. rest ++ still_incoming s (record { job = job; since = since } ∷ [])) same
      ∙ ap (λ b. still_incoming s left ++ cond b (record { job = job; since = since } ∷ []) []) is
      ∙ sym (as_left true (ap (λ b. b && not (has_left left job)) is ∙ ap not has))
