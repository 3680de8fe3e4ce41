-- A clock event cancels the late jobs in order, each once.
use Rattle.std.proofs.Common.{◌≡◌, ℕ, zero, suc, ◌+◌, ◌<◌, ◌≤◌, inl, inr, Bool, true, false, cond, [], ◌∷◌, Option, Some, None, refl, sym, ap, subst, ◌∙◌, arith}
use Rattle.std.specs.Prelude.{is_none}
use Rattle.std.specs.FinMap as finite
use Rattle.std.specs.List.{Contains}
use Rattle.std.proofs.lemmas.Bool.{both_ways, cases_eq}
use Rattle.spool_types.specs.declared.event.Event.TheVariants.{Cancel}
use Rattle.spool_types.specs.declared.phase.Phase.TheVariants.{Canceled}
use Rattle.spool_types.specs.declared.refusal.Refusal.TheVariants.{NoJob, JobEnded}
use Rattle.spool_types.specs.Phases.{has_ended, is_waiting}
use Rattle.spool_types.specs.State.{State, Job, job_at}
use Rattle.queue_sched.specs.declared.deadlines.Deadline.{Deadline}
use Rattle.job_table.specs.EventChanges.{at_moment, change_found, change_jobs, ended, is_late}
use Rattle.job_table.specs.Legal.{IsLegal}
use Rattle.job_table.specs.Over.{is_over, is_over_by}
use Rattle.job_table.specs.Shapes.{passes}
use Rattle.job_table.specs.Step.{after, first_cause, refusal_of}
use Rattle.job_table.specs.Timely.{deadline_found, IsTimely}
use Rattle.job_table.specs.declared.timetable.Timetable.{Timetable}
use Rattle.job_table.proofs.Changes.{at_most_highest}
use Rattle.job_table.proofs.Clocked.{ended_waits_not, late_canceled, late_from, late_moment, none_late}
use Rattle.job_table.proofs.Moves.{put_other, put_own}
use Rattle.job_table.proofs.Timely.{deadline_made, deadline_own}

-- ## The number of waiting jobs

abbrev pub count_of : Bool → ℕ
count_of b = cond b 1 0

-- The number of numbers below n that pass.
abbrev pub passing : (ℕ → Bool) → ℕ → ℕ
passing p zero = 0
passing p (suc n) = count_of (p n) + passing p n

passing_same : (p q : ℕ → Bool) (n : ℕ) → ((k : ℕ) → k < n → q k ≡ p k) → passing q n ≡ passing p n
passing_same p q zero same = refl
passing_same p q (suc n) same = λ i. count_of (same n (omega arith) i) + passing_same p q n (λ k lt. same k (omega (arith, lt))) i

-- One number no longer passes, and all others are as before.
passing_less : (p q : ℕ → Bool) (j : ℕ) → ((k : ℕ) → ¬ (k ≡ j) → q k ≡ p k) → p j ≡ true → q j ≡ false → (n : ℕ) → j < n → passing q n < passing p n
passing_less p q j others was not_now zero lt = absurd (omega (arith, lt))
passing_less p q j others was not_now (suc n) lt = elim (cases_eq n j) [
  | inl own ↦
      (let rest = passing_same p q n (λ k below. others k (λ same. omega (arith, below, same, own))) in
      let before : count_of (p n) ≡ count_of true = ap count_of (ap p own ∙ was) in
      let now : count_of (q n) ≡ count_of false = ap count_of (ap q own ∙ not_now) in
      omega (arith, rest, before, now))
  | inr other ↦
      (let rest = passing_less p q j others was not_now n (omega (arith, lt, other)) in
      let same : count_of (q n) ≡ count_of (p n) = ap count_of (others n other) in
      omega (arith, rest, same))
]

abbrev waits_found : Option Job → Bool
waits_found None = false
waits_found (Some r) = is_waiting r.phase

-- The number of waiting jobs of a table.
abbrev pub waiting_count : State → ℕ
waiting_count s = passing (λ j. waits_found (job_at s j)) (s.highest + 1)

-- ## The timetable and the late jobs

module _ (now : ℕ) (s : State) (t : Timetable) (timely : IsTimely (job_at s) t) where
  -- A deadline that has passed belongs to a late job.
  pub late_listed : (j : ℕ) → (d : Deadline) × Contains t.deadlines.items d × (d.id ≡ j) × (d.by < now) → (r : Job) × (job_at s j ≡ Some r) × (is_late now r ≡ true)
  late_listed j found = by_job (job_at s j) refl (sym (ap (λ k. deadline_found (job_at s k)) found.2) ∙ timely.only found.0 found.1)
    where
      by_job : (o : Option Job) → job_at s j ≡ o → deadline_found (job_at s j) ≡ Some found.0 → (r : Job) × (job_at s j ≡ Some r) × (is_late now r ≡ true)
      by_job None at is = (let no : None ≡ Some found.0 = sym (ap deadline_found at) ∙ is in absurd (cc))
      by_job (Some r) at is =
          let own = deadline_own r found.0 (sym (ap deadline_found at) ∙ is) in
          (r, at, late_from now found.0.by r own.0 own.1.0 found.3)

  -- If no deadline has passed, no job is late.
  pub none_listed : ((d : Deadline) → Contains t.deadlines.items d → now ≤ d.by) → change_jobs (at_moment now) s.jobs ≡ s.jobs
  none_listed later = none_late now s.jobs (λ j r there. either r j there (is_late now r) refl)
    where
      either : (r : Job) → (j : ℕ) → job_at s j ≡ Some r → (b : Bool) → is_late now r ≡ b → b ≡ false
      either r j there false is = refl
      either r j there true is =
          let late = late_moment now r is in
          let deadline : Deadline = record { by = late.0; id = r.id } in
          let listed = timely.listed j deadline (ap deadline_found there ∙ deadline_made r late.0 late.1 late.2) in
          absurd (omega (arith, later deadline listed.1, late.3))

-- ## A late job is canceled

module _ (now : ℕ) (s : State) (legal : IsLegal s) (j : ℕ) (r : Job) (there : job_at s j ≡ Some r) (late : is_late now r ≡ true) where
  waits : is_waiting r.phase ≡ true
  waits = (late_moment now r late).1

  lives : has_ended r.phase ≡ false
  lives = either (has_ended r.phase) refl
    where
      either : (b : Bool) → has_ended r.phase ≡ b → b ≡ false
      either true over = absurd (both_ways (is_waiting r.phase) (ended_waits_not r.phase over) waits)
      either false is = refl

  pub cancel_accepted : refusal_of s (Cancel j) ≡ None
  cancel_accepted =
      ap (λ o. first_cause ((is_none o, NoJob) ∷ (passes (λ q. has_ended q.phase) o, JobEnded) ∷ [])) there
      ∙ ap (λ b. first_cause ((false, NoJob) ∷ (b, JobEnded) ∷ [])) lives

  module _ (t : State) (after_it : t ≡ after s (Cancel j)) where
    canceled : t ≡ record s { jobs = finite.insert s.jobs j (ended Canceled r) }
    canceled = after_it ∙ ap (change_found s j (ended Canceled)) there

    -- The others are canceled as before.
    pub cancel_rest : change_jobs (at_moment now) t.jobs ≡ change_jobs (at_moment now) s.jobs
    cancel_rest = ap (λ (u : State). change_jobs (at_moment now) u.jobs) after_it ∙ late_canceled now s j r there late

    -- Only the jobs have changed.
    pub cancel_others : t ≡ record s { jobs = t.jobs }
    cancel_others = canceled ∙ ap (λ (u : State). record s { jobs = u.jobs }) (sym canceled)

    other_job : (k : ℕ) → ¬ (k ≡ j) → job_at t k ≡ job_at s k
    other_job k other = ap (λ (u : State). job_at u k) canceled ∙ put_other s j (ended Canceled r) k other

    own_job : job_at t j ≡ Some (ended Canceled r)
    own_job = ap (λ (u : State). job_at u j) canceled ∙ put_own s j (ended Canceled r)

    same_highest : t.highest ≡ s.highest
    same_highest = ap (λ (u : State). u.highest) canceled

    -- A number that is not over was not over before.
    pub cancel_alive : (k : ℕ) → is_over t k ≡ false → is_over s k ≡ false
    cancel_alive k lasts = elim (cases_eq k j) [
      | inl own ↦ absurd (both_ways (is_over t k) lasts (ap (is_over t) own ∙ ap (is_over_by t.highest j) own_job))
      | inr other ↦ ap (λ n. is_over_by n k (job_at s k)) (sym same_highest) ∙ ap (is_over_by t.highest k) (sym (other_job k other)) ∙ lasts
    ]

    -- The number of waiting jobs decreases.
    pub cancel_less : waiting_count t < waiting_count s
    cancel_less =
        subst (λ n. passing (λ k. waits_found (job_at t k)) (n + 1) < waiting_count s) (sym same_highest)
        (passing_less (λ k. waits_found (job_at s k)) (λ k. waits_found (job_at t k)) j (λ k other. ap waits_found (other_job k other))
        (ap waits_found there ∙ waits) (ap waits_found own_job) (s.highest + 1) (omega (arith, at_most_highest s j r legal there)))
