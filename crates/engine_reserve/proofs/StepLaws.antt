-- Steps in order, each refused or let in.
use Rattle.std.proofs.Common.{◌≡◌, inl, inr, ℕ, Bool, true, false, cond, List, [], ◌∷◌, ◌++◌, refl, ap, sym, ◌∙◌, subst}
use Rattle.spool_disk.specs.Disk.{DiskView}
use Rattle.filter_args.specs.declared.place.Place.{Place}
use Rattle.print_rounds.specs.RunStates.{RunState}
use Rattle.spool_engine.specs.Mime.{Mime}
use Rattle.spool_engine.specs.EventSteps.{Setting, setting}
use Rattle.spool_engine.specs.EngineRuns.{AreCommandSteps, CommandStep, last_run_state}
use Rattle.engine_reserve.specs.CommandRoom.{command_cost, takes_reserve}
use Rattle.engine_reserve.specs.ReservedRuns.{AreReservedSteps, IsReservedStep, LeadReserved, let_in}

-- What holds for equal rules and an equal place.
pub at_setting : {D : Type 0} (device : DiskView D) (P : Setting D → Type 0) (m m' : Mime) (p p' : Place) → m' ≡ m → p' ≡ p → P (setting device m' p') → P (setting device m p)
at_setting device P m m' p p' e f h =
    subst (λ (x : Mime). P (setting device x p)) e (subst (λ (y : Place). P (setting device m' y)) f h)

module _ {D : Type 0} (v : Setting D) (area : ℕ) where
  are_both : (s : RunState D) (ts us : List (CommandStep D)) → AreReservedSteps v area s ts → AreReservedSteps v area (last_run_state s ts) us → AreReservedSteps v area s (ts ++ us)
  are_both s [] us h k = k
  are_both s (t ∷ ts) us h k = (h.0, are_both t.next ts us h.1 k)

last_both : {D : Type 0} (s : RunState D) (ts us : List (CommandStep D)) → last_run_state s (ts ++ us) ≡ last_run_state (last_run_state s ts) us
last_both s [] us = refl
last_both s (t ∷ ts) us = last_both t.next ts us

pub lead_none : {D : Type 0} (v : Setting D) (area : ℕ) (s : RunState D) → LeadReserved v area s [] s
lead_none v area s = record { legal = tt; last = refl }

pub lead_both : {D : Type 0} (v : Setting D) (area : ℕ) (s m s' : RunState D) (ts us : List (CommandStep D)) → LeadReserved v area s ts m → LeadReserved v area m us s' → LeadReserved v area s (ts ++ us) s'
lead_both v area s m s' ts us l k = record {
  legal = are_both v area s ts us l.legal (subst (λ x. AreReservedSteps v area x us) (sym l.last) k.legal);
  last = last_both s ts us ∙ ap (λ x. last_run_state x us) l.last ∙ k.last;
}

pub lead_one : {D : Type 0} (v : Setting D) (area : ℕ) (s s' : RunState D) (t : CommandStep D) → IsReservedStep v area s t → t.next ≡ s' → LeadReserved v area s (t ∷ []) s'
lead_one v area s s' t h e = record { legal = (h, tt); last = e }

-- ## The steps of the engine

module _ {D : Type 0} (v : Setting D) (area : ℕ) where
  step_let_in : (s : RunState D) (t : CommandStep D) (ts : List (CommandStep D)) (b : Bool) → takes_reserve area s (command_cost t.command) ≡ b → IsReservedStep v area s t
      → AreCommandSteps v t.next ts → AreCommandSteps v s (cond b ts (t ∷ ts))
  step_let_in s t ts true e (inl refused) h = subst (λ x. AreCommandSteps v x ts) refused.same h
  step_let_in s t ts true e (inr taken) h = absurd (let no : true ≡ false = sym e ∙ taken.is in cc)
  step_let_in s t ts false e (inl refused) h = absurd (let no : true ≡ false = sym refused.is ∙ e in cc)
  step_let_in s t ts false e (inr taken) h = (taken.step, h)

  pub steps_let_in : (s : RunState D) (ts : List (CommandStep D)) → AreReservedSteps v area s ts → AreCommandSteps v s (let_in area s ts)
  steps_let_in s [] h = tt
  steps_let_in s (t ∷ ts) h = step_let_in s t (let_in area t.next ts) (takes_reserve area s (command_cost t.command)) refl h.0 (steps_let_in t.next ts h.1)

  one_let_in : (s : RunState D) (t : CommandStep D) (ts : List (CommandStep D)) (b : Bool) → takes_reserve area s (command_cost t.command) ≡ b → IsReservedStep v area s t
      → last_run_state s (cond b ts (t ∷ ts)) ≡ last_run_state t.next ts
  one_let_in s t ts true e (inl refused) = ap (λ x. last_run_state x ts) (sym refused.same)
  one_let_in s t ts true e (inr taken) = absurd (let no : true ≡ false = sym e ∙ taken.is in cc)
  one_let_in s t ts false e h = refl

  pub last_let_in : (s : RunState D) (ts : List (CommandStep D)) → AreReservedSteps v area s ts → last_run_state s (let_in area s ts) ≡ last_run_state s ts
  last_let_in s [] h = refl
  last_let_in s (t ∷ ts) h = one_let_in s t (let_in area t.next ts) (takes_reserve area s (command_cost t.command)) refl h.0 ∙ last_let_in t.next ts h.1
