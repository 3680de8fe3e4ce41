-- Iteration over the slots, from one job to the next, and the slots that remain after the others are freed.
use Rattle.std.proofs.Common.{◌≡◌, ℕ, ◌-◌, ◌<◌, ◌≤◌, Bool, true, false, cond, ◌==◌, nat_lt, Option, Some, None, IsSome, IsTrue, refl, sym, ap, subst, ◌∙◌, arith}
use Rattle.std.specs.Cmp.{nat_cmp_total}
use Rattle.std.specs.FinMap as finite
use Rattle.std.proofs.lemmas.Bool.{eqb-true, eq-eqb, ltb-true, ltb-false}
use Rattle.spool_types.specs.State.{State, Job, job_at}
use Rattle.child_pipeline.specs.StageSlots.{Slots, IsTicketless, IsRunning, IsBehind, IsNextJob, is_running}
use Rattle.child_pipeline.specs.declared.runner.Progress.{Progress}
use Rattle.child_pipeline.specs.declared.runner.Progress.TheVariants.{Ready, Running, Ended}
use Rattle.child_pipeline.specs.declared.runner.Slot.{Slot}
use Rattle.print_rounds.specs.Finished.{HasNoneRunning}
use Rattle.print_rounds.specs.StageChecks.{has_child, idle_slots, is_kept}
use Rattle.print_rounds.specs.RoundScript.{current_slots, is_current}
use Rattle.print_rounds.proofs.EndLaws.{SameBut, get_gone, get_left, not_second}

-- The slot of a job after the freeing, if it remains.
abbrev pub left_of : State → ℕ → Option (Slot ℕ) → Option (Slot ℕ)
left_of s j o = cond (is_current (job_at s j) o) o None

pub get_current : (s : State) (slots : Slots) (j : ℕ) → finite.get (current_slots s slots) j ≡ left_of s j (finite.get slots j)
get_current s slots j = finite.get-retain_keys slots (λ k. is_current (job_at s k) (finite.get slots k)) j (λ x tied. ap (λ k. is_current (job_at s k) (finite.get slots k)) (sym (finite.nat_cmp-IsAntisymmetric j x tied)))

left_rests : (b : Bool) (o : Option (Slot ℕ)) → IsTicketless o → IsTicketless (cond b o None)
left_rests true o rests = rests
left_rests false o rests = tt

pub current_rests : (s : State) (slots : Slots) → HasNoneRunning slots → HasNoneRunning (current_slots s slots)
current_rests s slots rests j = subst IsTicketless (sym (get_current s slots j)) (left_rests (is_current (job_at s j) (finite.get slots j)) (finite.get slots j) (rests j))

-- ## Whether a child is running

pub resting_of : (o : Option (Slot ℕ)) → has_child o ≡ false → IsTicketless o
resting_of None off = tt
resting_of (Some slot) off = by_progress slot.progress off
  where
    by_progress : (p : Progress ℕ) → is_running p ≡ false → (n : ℕ) → ¬ (p ≡ Running n)
    by_progress (Ready input) off n is = absurd (cc)
    by_progress (Running k) off n is = absurd (cc)
    by_progress (Ended finish) off n is = absurd (cc)

child_runs : (o : Option (Slot ℕ)) → IsRunning o → has_child o ≡ true
child_runs None runs = absurd runs
child_runs (Some slot) runs = runs

child_rests : (o : Option (Slot ℕ)) → IsTicketless o → has_child o ≡ false
child_rests None rests = refl
child_rests (Some slot) rests = by_progress slot.progress rests
  where
    by_progress : (p : Progress ℕ) → ((n : ℕ) → ¬ (p ≡ Running n)) → is_running p ≡ false
    by_progress (Ready input) rests = refl
    by_progress (Running n) rests = absurd (rests n refl)
    by_progress (Ended finish) rests = refl

-- An answer whether the child of a slot is running.
pub answered : (b : Bool) (o : Option (Slot ℕ)) → (IsTrue b → IsRunning o) → (b ≡ false → IsTicketless o) → b ≡ has_child o
answered true o on off = sym (child_runs o (on refl))
answered false o on off = sym (child_rests o (off refl))

-- ## Iteration

-- The number of job numbers after a job.
abbrev pub jobs_ahead : Option ℕ → ℕ
jobs_ahead None = 2147483648
jobs_ahead (Some j) = 2147483647 - j

-- Whether a job comes after another.
module _ {P : Type 0} where
  pub by_behind : (behind : Option ℕ) (j : ℕ) → (IsBehind behind j → P) → (¬ (IsBehind behind j) → P) → P
  by_behind None j near far = near tt
  by_behind (Some b) j near far = by_test (nat_lt b j) refl
    where
      by_test : (c : Bool) → nat_lt b j ≡ c → P
      by_test true e = near (ltb-true b j e)
      by_test false e = far (λ lt. let le : j ≤ b = ltb-false b j e in omega (arith, le, lt))

pub absent_or : (o : Option (Slot ℕ)) → ¬ (IsSome o) → o ≡ None
absent_or None absent = refl
absent_or (Some slot) absent = absurd (absent refl)

pub behind_on : (behind : Option ℕ) (k j : ℕ) → IsBehind behind k → k < j → IsBehind behind j
behind_on None k j is lt = tt
behind_on (Some b) k j is lt = omega (arith, is, lt)

pub differ : (k j : ℕ) → k < j → (j == k) ≡ false
differ k j lt = by_test (j == k) refl
  where
    by_test : (b : Bool) → (j == k) ≡ b → b ≡ false
    by_test true e = let is : j ≡ k = eqb-true j k e in absurd (omega (arith, is, lt))
    by_test false e = refl

less : (k j : ℕ) → (j == k) ≡ false → ¬ (k < j) → j < k
less k j e out = by_lt (nat_lt j k) refl
  where
    by_gt : k ≤ j → (b : Bool) → nat_lt k j ≡ b → j < k
    by_gt le true is = absurd (out (ltb-true k j is))
    by_gt le false is =
        let ge : j ≤ k = ltb-false k j is in
        let tied : (j == k) ≡ true = eq-eqb j k (omega (arith, le, ge)) in
        absurd (cc)

    by_lt : (b : Bool) → nat_lt j k ≡ b → j < k
    by_lt true is = ltb-true j k is
    by_lt false is = by_gt (ltb-false j k is) (nat_lt k j) refl

-- The slots up to a job are as required, and those after it are unchanged.
pub record IsWalkedTo (P : ℕ → Option (Slot ℕ) → Type 0) (old : Slots) (behind : Option ℕ) (new : Slots) : Type 0 where
  pub passed : (j : ℕ) → ¬ (IsBehind behind j) → P j (finite.get new j)
  pub ahead : (j : ℕ) → IsBehind behind j → finite.get new j ≡ finite.get old j

module _ (P : ℕ → Option (Slot ℕ) → Type 0) (old : Slots) (absent : (j : ℕ) → finite.get old j ≡ None → P j None) where
  pub walk_begins : IsWalkedTo P old None old
  walk_begins = record { passed = λ j out. absurd (out tt); ahead = λ j is. refl }

  module _ (behind : Option ℕ) (now : Slots) (walked : IsWalkedTo P old behind now) where
    where_none : (j : ℕ) → IsBehind behind j → finite.get now j ≡ None → P j (finite.get now j)
    where_none j is gone = subst (P j) (sym gone) (absent j (sym (walked.ahead j is) ∙ gone))

    -- The next job was processed, and nothing else is changed.
    pub walk_goes_on : (k : ℕ) → IsNextJob now behind (Some k) → (new : Slots) → SameBut k now new → P k (finite.get new k) → IsWalkedTo P old (Some k) new
    walk_goes_on k next new same own = record {
      passed = λ j out. by_job j (j == k) refl out;
      ahead = λ j lt. same j (differ k j lt) ∙ walked.ahead j (behind_on behind k j next.0 lt);
    }
      where
        before : (j : ℕ) → j < k → P j (finite.get now j)
        before j lt = by_behind behind j
            (λ is. where_none j is (absent_or (finite.get now j) (λ there. let le : k ≤ j = next.2 j is there in omega (arith, le, lt))))
            (walked.passed j)

        by_job : (j : ℕ) (b : Bool) → (j == k) ≡ b → ¬ (k < j) → P j (finite.get new j)
        by_job j true e out = subst (λ i. P i (finite.get new i)) (sym (eqb-true j k e)) own
        by_job j false e out = subst (P j) (sym (same j e)) (before j (less k j e out))

    -- No slot is left to visit.
    pub walk_ends : IsNextJob now behind None → (j : ℕ) → P j (finite.get now j)
    walk_ends none j = by_behind behind j (λ is. where_none j is (none j is)) (walked.passed j)

-- ## Slots that are freed

-- The slot of a job after the freeing, if it remains. A slot with a running child remains.
abbrev pub idle_left : State → ℕ → Option (Slot ℕ) → Option (Slot ℕ)
idle_left s j o = cond (is_kept (job_at s j) o) o None

pub get_idle : (s : State) (slots : Slots) (j : ℕ) → finite.get (idle_slots s slots) j ≡ idle_left s j (finite.get slots j)
get_idle s slots j = finite.get-retain_keys slots (λ k. is_kept (job_at s k) (finite.get slots k)) j (λ x tied. ap (λ k. is_kept (job_at s k) (finite.get slots k)) (sym (finite.nat_cmp-IsAntisymmetric j x tied)))

-- A slot that is freed has no running child.
pub off_rests : (row : Option Job) (o : Option (Slot ℕ)) → is_kept row o ≡ false → IsTicketless o
off_rests row o off = resting_of o (not_second (is_current row o) (has_child o) off)

-- The slots up to a job are retained or freed.
abbrev pub IsFreedTo : State → Slots → Option ℕ → Slots → Type 0
IsFreedTo s old behind new = IsWalkedTo (λ j o. o ≡ idle_left s j (finite.get old j)) old behind new

either_none : (b : Bool) (o : Option (Slot ℕ)) → o ≡ None → cond b o None ≡ None
either_none true o gone = gone
either_none false o gone = refl

none_left : (s : State) (old : Slots) (j : ℕ) → finite.get old j ≡ None → None ≡ idle_left s j (finite.get old j)
none_left s old j gone = sym (either_none (is_kept (job_at s j) (finite.get old j)) (finite.get old j) gone)

pub none_freed : (s : State) (old : Slots) → IsFreedTo s old None old
none_freed s old = walk_begins (λ j o. o ≡ idle_left s j (finite.get old j)) old (none_left s old)

module _ (s : State) (old : Slots) (behind : Option ℕ) (now : Slots) (freed : IsFreedTo s old behind now) where
  module _ (k : ℕ) (next : IsNextJob now behind (Some k)) where
    at_next : finite.get now k ≡ finite.get old k
    at_next = freed.ahead k next.0

    left_by : (b : Bool) → is_kept (job_at s k) (finite.get now k) ≡ b → idle_left s k (finite.get old k) ≡ cond b (finite.get old k) None
    left_by b is = ap (λ b. cond b (finite.get old k) None) (ap (λ o. is_kept (job_at s k) o) (sym at_next) ∙ is)

    -- The slot is retained.
    pub stays : is_kept (job_at s k) (finite.get now k) ≡ true → IsFreedTo s old (Some k) now
    stays is = walk_goes_on (λ j o. o ≡ idle_left s j (finite.get old j)) old (none_left s old) behind now freed k next now (λ j other. refl) (at_next ∙ sym (left_by true is))

    -- The slot is freed.
    pub goes : is_kept (job_at s k) (finite.get now k) ≡ false → IsFreedTo s old (Some k) (finite.remove now k)
    goes is = walk_goes_on (λ j o. o ≡ idle_left s j (finite.get old j)) old (none_left s old) behind now freed k next (finite.remove now k) (λ j other. get_left now k j other) (get_gone now k ∙ sym (left_by false is))

  pub all_freed : IsNextJob now behind None → now ≡ idle_slots s old
  all_freed none = finite.same_map nat_cmp_total finite.nat_cmp-IsAntisymmetric now (idle_slots s old) (λ j. walk_ends (λ j o. o ≡ idle_left s j (finite.get old j)) old (none_left s old) behind now freed none j ∙ sym (get_idle s old j))
