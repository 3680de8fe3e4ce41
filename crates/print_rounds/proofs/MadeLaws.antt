-- The slot of a stage that must be started.
use Rattle.std.proofs.Common.{◌≡◌, ℕ, Bool, true, false, cond, ◌&&◌, ◌==◌, Option, Some, None, unwrap_or, refl, sym, ap, subst, ◌∙◌}
use Rattle.std.specs.FinMap as finite
use Rattle.std.specs.Cmp.{first_so, second_so}
use Rattle.std.proofs.lemmas.Bool.{eqb-true}
use Rattle.spool_types.specs.declared.phase.Phase.TheVariants.{Processing}
use Rattle.spool_types.specs.State.{Job}
use Rattle.child_pipeline.specs.StageSlots.{Slots, begun, begun_in, is_ready, IsDue}
use Rattle.child_pipeline.specs.declared.runner.Slot.{Slot}
use Rattle.print_rounds.specs.Choice.{slots_for, slots_in, slots_by, new_slots, readiness}
use Rattle.print_rounds.proofs.EndLaws.{get_own}

due_by : (attempt stage : ℕ) (slot : Slot ℕ) (stages : ℕ) (b : Bool) → (slot.attempt == attempt && slot.stage == stage) ≡ b → cond b (Some (is_ready slot.progress)) None ≡ Some true → IsDue (Some slot) (Processing attempt stage stages)
due_by attempt stage slot stages true is e = (
  ap (λ o. unwrap_or o true) e,
  (eqb-true slot.attempt attempt (first_so (slot.attempt == attempt) (slot.stage == stage) is), eqb-true slot.stage stage (second_so (slot.attempt == attempt) (slot.stage == stage) is)),
)
due_by attempt stage slot stages false is e = absurd (cc)

due_of : (attempt stage stages : ℕ) (o : Option (Slot ℕ)) → readiness attempt stage o ≡ Some true → IsDue o (Processing attempt stage stages)
due_of attempt stage stages None e = absurd (cc)
due_of attempt stage stages (Some slot) e = due_by attempt stage slot stages (slot.attempt == attempt && slot.stage == stage) refl e

-- A stage that is ready to be started is due.
pub ready_due : (slots : Slots) (r : Job) (attempt stage stages : ℕ) → r.phase ≡ Processing attempt stage stages → readiness attempt stage (finite.get slots r.id) ≡ Some true → IsDue (finite.get slots r.id) r.phase
ready_due slots r attempt stage stages is ready = subst (IsDue (finite.get slots r.id)) (sym is) (due_of attempt stage stages (finite.get slots r.id) ready)

-- A slot is made for the first stage.
pub made_due : (slots : Slots) (r : Job) (attempt stage stages : ℕ) → r.phase ≡ Processing attempt stage stages → readiness attempt stage (finite.get slots r.id) ≡ None → stage ≡ 1 → slots_for slots r ≡ Some (begun_in slots r.id r.phase)
made_due slots r attempt stage stages is absent first =
    ap (slots_in slots r) is
    ∙ ap (slots_by slots r stage) absent
    ∙ ap (λ k. new_slots slots r k) first

pub made_ready : (slots : Slots) (r : Job) (attempt stage stages : ℕ) → r.phase ≡ Processing attempt stage stages → IsDue (finite.get (begun_in slots r.id r.phase) r.id) r.phase
made_ready slots r attempt stage stages is =
    subst (λ p. IsDue (finite.get (begun_in slots r.id p) r.id) p) (sym is)
    (subst (λ o. IsDue o (Processing attempt stage stages)) (sym (get_own slots r.id (begun attempt stage))) (refl, (refl, refl)))
