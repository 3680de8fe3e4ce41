-- Changing a slot twice.
use Rattle.std.proofs.Common.{◌≡◌, ℕ, Bool, true, false, cond, Option, Some, None, refl, sym, ap, ◌∙◌}
use Rattle.std.specs.Option.{is_some, IsSome}
use Rattle.std.specs.Prelude.{unwrap_or, Result}
use Rattle.std.specs.Ordering.{nat_cmp, eq_by_cmp}
use Rattle.std.specs.Cmp.{nat_cmp_total, eq_by_cmp_equiv, unsigned_tied}
use Rattle.std.proofs.lemmas.Bool.{eqb-true}
use Rattle.std.specs.FinMap as finite
use Rattle.child_pipeline.specs.StageSlots.{Slots, slot_in, put_progress, with_progress, begun, IsReporting, IsTicketless, IsEnded, IsRunning, is_ready, is_ended, IsFinish}
use Rattle.child_pipeline.specs.Finishes.{kept}
use Rattle.child_pipeline.specs.ChildTraces.{ChildTrace, finish_in, Finishes}
use Rattle.child_pipeline.specs.declared.order.Finish.{Finish}
use Rattle.child_pipeline.specs.declared.order.ChildFault.{ChildFault}
use Rattle.child_pipeline.specs.declared.runner.Slot.{Slot}
use Rattle.child_pipeline.specs.declared.runner.Progress.{Progress}
use Rattle.child_pipeline.specs.declared.runner.Progress.TheVariants.{Ready, Running, Ended}

pub get_own : (m : Slots) (j : ℕ) (x : Slot ℕ) → finite.get (finite.insert m j x) j ≡ Some x
get_own m j x = finite.get-insert nat_cmp_total m j x j ∙ ap (λ b. cond b (Some x) (finite.get m j)) ((eq_by_cmp_equiv nat_cmp_total).refl j)

pub still_there : (m : Slots) (j : ℕ) (p : Progress ℕ) → IsSome (finite.get (put_progress m j p) j)
still_there m j p = ap is_some (get_own m j (with_progress (slot_in m j) p))

pub slot_put : (m : Slots) (j : ℕ) (p : Progress ℕ) → slot_in (put_progress m j p) j ≡ with_progress (slot_in m j) p
slot_put m j p = ap (λ o. unwrap_or o (begun 0 0)) (get_own m j (with_progress (slot_in m j) p))

once : (b : Bool) (x y : Slot ℕ) (o : Option (Slot ℕ)) → cond b (Some y) (cond b (Some x) o) ≡ cond b (Some y) o
once true x y o = refl
once false x y o = refl

pub insert_twice : (m : Slots) (j : ℕ) (x y : Slot ℕ) → finite.insert (finite.insert m j x) j y ≡ finite.insert m j y
insert_twice m j x y =
    finite.same_map nat_cmp_total finite.nat_cmp-IsAntisymmetric _ _ (λ q.
    finite.get-insert nat_cmp_total (finite.insert m j x) j y q
    ∙ ap (λ o. cond (eq_by_cmp nat_cmp q j) (Some y) o) (finite.get-insert nat_cmp_total m j x q)
    ∙ once (eq_by_cmp nat_cmp q j) x y (finite.get m q)
    ∙ sym (finite.get-insert nat_cmp_total m j y q))

pub put_twice : (m : Slots) (j : ℕ) (p q : Progress ℕ) → put_progress (put_progress m j p) j q ≡ put_progress m j q
put_twice m j p q =
    ap (λ s. finite.insert (put_progress m j p) j (with_progress s q)) (slot_put m j p)
    ∙ insert_twice m j (with_progress (slot_in m j) p) (with_progress (slot_in m j) q)

-- A stage that reports and has no running child has ended.
pub ended_if : (o : Option (Slot ℕ)) → IsReporting o → IsTicketless o → IsEnded o
ended_if None reports rests = absurd reports
ended_if (Some slot) reports rests = by_progress slot.progress reports rests
  where
    by_progress : (p : Progress ℕ) → is_ready p ≡ false → ((n : ℕ) → ¬ (p ≡ Running n)) → is_ended p ≡ true
    by_progress (Ready input) reports rests = absurd (cc)
    by_progress (Running n) reports rests = absurd (rests n refl)
    by_progress (Ended finish) reports rests = refl

-- The stored finish, given the answer to a child's finish.
pub finish_kept : (told : Option ChildTrace) (n : ℕ) (result : Result Finish ChildFault) (f : Finish) (told' : Option ChildTrace) → f ≡ kept (finish_in result) → Finishes told n result told' → IsFinish told n f told'
finish_kept None n result f told' is finishes = finishes
finish_kept (Some t) n result f told' is finishes = λ running. (is ∙ ap kept (finishes running).answer, (finishes running).told)

-- Inserting a slot in its own position changes nothing.
pub insert_same : (m : Slots) (j : ℕ) (x : Slot ℕ) → finite.get m j ≡ Some x → finite.insert m j x ≡ m
insert_same m j x there = finite.same_map nat_cmp_total finite.nat_cmp-IsAntisymmetric _ _ (λ q. finite.get-insert nat_cmp_total m j x q ∙ by_key q (eq_by_cmp nat_cmp q j) refl)
  where
    by_key : (q : ℕ) (b : Bool) → eq_by_cmp nat_cmp q j ≡ b → cond b (Some x) (finite.get m q) ≡ finite.get m q
    by_key q true is = sym there ∙ ap (finite.get m) (sym (eqb-true q j (sym (unsigned_tied q j) ∙ is)))
    by_key q false is = refl

-- So a running child is put back.
pub put_back : (m : Slots) (j : ℕ) (p : Progress ℕ) → IsRunning (finite.get m j) → p ≡ (slot_in m j).progress → put_progress m j p ≡ m
put_back m j p runs is = by_slot (finite.get m j) refl runs
  where
    by_slot : (o : Option (Slot ℕ)) → finite.get m j ≡ o → IsRunning o → put_progress m j p ≡ m
    by_slot None there runs = absurd runs
    by_slot (Some slot) there runs =
        let own : slot_in m j ≡ slot = ap (λ o. unwrap_or o (begun 0 0)) there in
        insert_same m j (with_progress (slot_in m j) p) (there ∙ ap Some (sym (ap (λ q. with_progress (slot_in m j) q) is ∙ own)))
