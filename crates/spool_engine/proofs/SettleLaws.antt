-- Waiting for the running children: before a round, and when an engine is taken apart.
use Rattle.std.proofs.Common.{◌≡◌, ℕ, Bool, true, false, cond, ◌==◌, List, [], ◌∷◌, length, map, Option, Some, None, unwrap_or, refl, sym, ap, subst, ◌∙◌, arith, nat_cmp}
use Rattle.std.specs.List.{filter}
use Rattle.std.specs.FinMap as finite
use Rattle.std.specs.Cmp.{nat_cmp_total, eq_by_cmp_equiv, unsigned_tied}
use Rattle.std.proofs.lemmas.Bool.{eqb-true}
use Rattle.job_table.specs.Stages.{Key}
use Rattle.spool_core.specs.OpenSpools.{OpenSpool}
use Rattle.child_pipeline.specs.Finishes.{kept}
use Rattle.child_pipeline.specs.StageSlots.{Slots, slot_in, begun, with_progress, put_progress, FinishesFrom, FinishesStage, IsTicketless, Waits, is_running}
use Rattle.child_pipeline.specs.Tickets.{IsRunningAs, AreOnce, HasTickets, AreKeptBy}
use Rattle.child_pipeline.specs.ChildTraces.{ChildTrace, is_in, first_finish, after_finish}
use Rattle.child_pipeline.specs.declared.order.Finish.{Finish}
use Rattle.child_pipeline.specs.declared.runner.Progress.{Progress}
use Rattle.child_pipeline.specs.declared.runner.Progress.TheVariants.{Ready, Running, Ended}
use Rattle.child_pipeline.specs.declared.runner.Slot.{Slot}
use Rattle.print_rounds.specs.RunStates.{RunState, run_state}
use Rattle.print_rounds.specs.Finished.{HasNoneRunning}
use Rattle.print_rounds.specs.StageChecks.{has_child, runs}
use Rattle.print_rounds.specs.RoundScript.{Play, play_from, plays, waited, waited_by}
use Rattle.print_rounds.specs.RoundTicks.{AreFinishings, Finishing, IsFinishedOff, running_jobs}
use Rattle.print_rounds.specs.StageHistory.{IsBegunSlot}
use Rattle.spool_engine.specs.EngineRounds.{IsSettled}
use Rattle.spool_engine.specs.Script.{ScriptState, script_state_after, settled}

-- A finish removes one ticket from its slot.
abbrev pub FinishLaw : Type 0
FinishLaw = (slots : Slots) (j n : ℕ) (t : ChildTrace) (new : Slots) (told : Option ChildTrace) → HasTickets slots t → IsRunningAs slots j n → Waits (Some t) n slots j new told → AreKeptBy t 0 new told

pub told_same : (x y : ChildTrace) → Some x ≡ Some y → x ≡ y
told_same x y e = cc

-- ## If no child runs

rests_so : (o : Option (Slot ℕ)) → IsTicketless o → has_child o ≡ false
rests_so None rest = refl
rests_so (Some slot) rest = by_progress slot.progress refl
  where
    by_progress : (p : Progress ℕ) → slot.progress ≡ p → is_running slot.progress ≡ false
    by_progress (Ready input) is = ap is_running is
    by_progress (Running n) is = absurd (rest n is)
    by_progress (Ended finish) is = ap is_running is

none_run : (slots : Slots) (js : List ℕ) → HasNoneRunning slots → filter (runs slots) js ≡ []
none_run slots [] rest = refl
none_run slots (j ∷ js) rest = ap (λ b. cond b (j ∷ filter (runs slots) js) (filter (runs slots) js)) (rests_so (finite.get slots j) (rest j)) ∙ none_run slots js rest

no_finishings : (fs : List Finishing) → map (λ f. f.job) fs ≡ [] → fs ≡ []
no_finishings [] e = refl
no_finishings (f ∷ fs) e = absurd (omega (arith, ap length e))

pub settled_of : {D : Type 0} (old : RunState D) (s : OpenSpool D) (slots : Slots) (told : Option ChildTrace) (fs : List Finishing) → s ≡ old.spool → AreFinishings old.slots old.told fs slots told → map (λ f. f.job) fs ≡ running_jobs old.slots → HasNoneRunning slots
    → ((t : ChildTrace) → old.told ≡ Some t → HasTickets old.slots t → IsFinishedOff t told) → IsSettled old (run_state s slots told)
settled_of {D} old s slots told fs same steps jobs rest finished = record {
  spool = same;
  steps = (fs, steps, jobs);
  rest = rest;
  finished = finished;
  same = λ none.
      let nothing : fs ≡ [] = no_finishings fs (jobs ∙ none_run old.slots (finite.keys old.slots) none) in
      let both : AreFinishings old.slots old.told [] slots told = subst (λ l. AreFinishings old.slots old.told l slots told) nothing steps in
      ap (λ (x : OpenSpool D). run_state x slots told) same ∙ ap (λ m. run_state old.spool m told) both.0 ∙ ap (λ o. run_state old.spool old.slots o) both.1;
}

-- No child is waited for.
pub settled_same : (x : ScriptState) → HasNoneRunning x.slots → settled x ≡ x
settled_same x rest = ap (λ js. script_state_after (plays waited (play_from x.state x.slots x.told) js)) (none_run x.slots (finite.keys x.slots) rest)

-- If no child runs, there is no ticket.
pub no_tickets : (slots : Slots) (t : ChildTrace) → HasNoneRunning slots → t.running ≡ [] → HasTickets slots t
no_tickets slots t rest quiet = record {
  running = λ j n r. absurd (none_there j n r);
  owned = λ n among. absurd (none_in n among);
  apart = λ i j n r q. absurd (none_there i n r);
  known = λ n among. absurd (none_in n among);
  once = subst AreOnce (sym quiet) tt;
}
  where
    none_there : (j n : ℕ) → IsRunningAs slots j n → ⊥
    none_there j n r = subst IsTicketless r.there (rest j) n r.runs

    none_in : (n : ℕ) → is_in n t.running ≡ true → ⊥
    none_in n among = let bad : is_in n [] ≡ true = ap (is_in n) (sym quiet) ∙ among in absurd cc

pub empty_rests : (slots : Slots) → slots ≡ finite.empty → HasNoneRunning slots
empty_rests slots none = λ j. subst IsTicketless (sym (ap (λ m. finite.get m j) none ∙ finite.get-empty nat_cmp j)) tt

-- ## The stages that were begun are held

get_own : (m : Slots) (j : ℕ) (x : Slot ℕ) → finite.get (finite.insert m j x) j ≡ Some x
get_own m j x = finite.get-insert nat_cmp_total m j x j ∙ ap (λ b. cond b (Some x) (finite.get m j)) ((eq_by_cmp_equiv nat_cmp_total).refl j)

get_other : (m : Slots) (j k : ℕ) (x : Slot ℕ) → (k == j) ≡ false → finite.get (finite.insert m j x) k ≡ finite.get m k
get_other m j k x other = finite.get-insert nat_cmp_total m j x k ∙ ap (λ b. cond b (Some x) (finite.get m k)) (unsigned_tied k j ∙ other)

begun_put : (slots : Slots) (j : ℕ) (f : Finish) (k : Key) → IsBegunSlot slots k → IsBegunSlot (put_progress slots j (Ended f)) k
begun_put slots j f k b = by_job (k.job == j) refl
  where
    by_job : (test : Bool) → (k.job == j) ≡ test → IsBegunSlot (put_progress slots j (Ended f)) k
    by_job true is =
        let at : k.job ≡ j = eqb-true k.job j is in
        let own : slot_in slots j ≡ b.slot = ap (λ o. unwrap_or o (begun 0 0)) (ap (finite.get slots) (sym at) ∙ b.there) in
        record {
          slot = with_progress b.slot (Ended f);
          there = ap (finite.get (put_progress slots j (Ended f))) at ∙ get_own slots j (with_progress (slot_in slots j) (Ended f)) ∙ ap (λ x. Some (with_progress x (Ended f))) own;
          attempt = b.attempt;
          stage = b.stage;
          begun = refl;
        }
    by_job false is = record {
      slot = b.slot;
      there = get_other slots j k.job (with_progress (slot_in slots j) (Ended f)) is ∙ b.there;
      attempt = b.attempt;
      stage = b.stage;
      begun = b.begun;
    }

begun_from : (q : Progress ℕ) (told : Option ChildTrace) (slots : Slots) (j : ℕ) (slots' : Slots) (told' : Option ChildTrace) (k : Key) → FinishesFrom q told slots j slots' told' → IsBegunSlot slots k → IsBegunSlot slots' k
begun_from (Ready input) told slots j slots' told' k fin b = absurd fin
begun_from (Running n) told slots j slots' told' k fin b = subst (λ m. IsBegunSlot m k) (sym fin.slots) (begun_put slots j fin.finish k b)
begun_from (Ended finish) told slots j slots' told' k fin b = subst (λ m. IsBegunSlot m k) (sym fin.0) b

pub begun_then : (fs : List Finishing) (slots : Slots) (told : Option ChildTrace) (new : Slots) (told' : Option ChildTrace) (k : Key) → AreFinishings slots told fs new told' → IsBegunSlot slots k → IsBegunSlot new k
begun_then [] slots told new told' k are b = subst (λ m. IsBegunSlot m k) (sym are.0) b
begun_then (f ∷ fs) slots told new told' k are b = begun_then fs f.slots f.told new told' k are.1 (begun_from (slot_in slots f.job).progress told slots f.job f.slots f.told k are.0 b)

-- ## Script waits for the same children

running_as : (slots : Slots) (j n : ℕ) → (slot_in slots j).progress ≡ Running n → IsRunningAs slots j n
running_as slots j n is = by_slot (finite.get slots j) refl
  where
    by_slot : (o : Option (Slot ℕ)) → finite.get slots j ≡ o → IsRunningAs slots j n
    by_slot None there = let bad : (begun 0 0).progress ≡ Running n = ap (λ o. (unwrap_or o (begun 0 0)).progress) (sym there) ∙ is in absurd cc
    by_slot (Some slot) there = record { slot = slot; there = there; runs = ap (λ o. (unwrap_or o (begun 0 0)).progress) (sym there) ∙ is }

-- The slots and the trace are those of the play, and the slots have the tickets.
pub record IsAsPlay (p : Play) (slots : Slots) (told : Option ChildTrace) : Type 0 where
  pub slots_are : slots ≡ p.slots
  pub told_is : told ≡ Some p.told
  pub tickets : HasTickets p.slots p.told

waits_as : (law : FinishLaw) (p : Play) (j : ℕ) (slots' : Slots) (told' : Option ChildTrace) (q : Progress ℕ) → (slot_in p.slots j).progress ≡ q → HasTickets p.slots p.told → FinishesFrom q (Some p.told) p.slots j slots' told' → IsAsPlay (waited_by p j q) slots' told'
waits_as law p j slots' told' (Ready input) is has fin = absurd fin
waits_as law p j slots' told' (Ended finish) is has fin = record { slots_are = fin.0; told_is = fin.1; tickets = has }
waits_as law p j slots' told' (Running n) is has fin =
    let own : IsRunningAs p.slots j n = running_as p.slots j n is in
    let answer = fin.answer (has.running j n own) in
    let slots_are : slots' ≡ put_progress p.slots j (Ended (kept (first_finish p.told.finishes))) = fin.slots ∙ ap (λ f. put_progress p.slots j (Ended f)) answer.0 in
    let keeps : AreKeptBy p.told 0 slots' told' = law p.slots j n p.told slots' told' has own fin in
    record {
      slots_are = slots_are;
      told_is = answer.1;
      tickets = subst (λ m. HasTickets m (after_finish p.told n)) slots_are (subst (HasTickets slots') (told_same keeps.now (after_finish p.told n) (sym keeps.tells ∙ answer.1)) keeps.tickets);
    }

waits_play : (law : FinishLaw) (p : Play) (slots : Slots) (told : Option ChildTrace) (j : ℕ) (slots' : Slots) (told' : Option ChildTrace) → IsAsPlay p slots told → FinishesStage told slots j slots' told' → IsAsPlay (waited p j) slots' told'
waits_play law p slots told j slots' told' like fin =
    let here : FinishesStage told p.slots j slots' told' = subst (λ m. FinishesStage told m j slots' told') like.slots_are fin in
    waits_as law p j slots' told' (slot_in p.slots j).progress refl like.tickets (subst (λ o. FinishesStage o p.slots j slots' told') like.told_is here)

pub waits_all : (law : FinishLaw) (fs : List Finishing) (p : Play) (slots : Slots) (told : Option ChildTrace) (new : Slots) (told' : Option ChildTrace) → IsAsPlay p slots told → AreFinishings slots told fs new told' → IsAsPlay (plays waited p (map (λ f. f.job) fs)) new told'
waits_all law [] p slots told new told' like are = record { slots_are = are.0 ∙ like.slots_are; told_is = are.1 ∙ like.told_is; tickets = like.tickets }
waits_all law (f ∷ fs) p slots told new told' like are = waits_all law fs (waited p f.job) f.slots f.told new told' (waits_play law p slots told f.job f.slots f.told like are.0) are.1

-- The table does not change.
waits_state : (p : Play) (j : ℕ) (q : Progress ℕ) → (waited_by p j q).state ≡ p.state
waits_state p j (Ready input) = refl
waits_state p j (Running n) = refl
waits_state p j (Ended finish) = refl

pub waited_state : (p : Play) (js : List ℕ) → (plays waited p js).state ≡ p.state
waited_state p [] = refl
waited_state p (j ∷ js) = waited_state (waited p j) js ∙ waits_state p j (slot_in p.slots j).progress
