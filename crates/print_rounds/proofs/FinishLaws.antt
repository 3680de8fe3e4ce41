-- The children that are left are finished once each.
use Rattle.std.proofs.Common.{◌≡◌, ℕ, Bool, true, false, cond, List, [], ◌∷◌, ◌++◌, length, map, Option, Some, None, unwrap_or, refl, sym, ap, subst, ◌∙◌, arith, append-nil}
use Rattle.std.specs.FinMap as finite
use Rattle.std.specs.List.{filter}
use Rattle.std.proofs.lemmas.List.{map-append}
use Rattle.child_pipeline.specs.StageSlots.{Slots, IsNextJob, IsTicketless, IsEnded, IsRunning, FinishesFrom, FinishesStage, Waits, begun, is_running, slot_in}
use Rattle.child_pipeline.specs.declared.runner.Progress.{Progress}
use Rattle.child_pipeline.specs.declared.runner.Progress.TheVariants.{Ready, Running, Ended}
use Rattle.child_pipeline.specs.declared.runner.Slot.{Slot}
use Rattle.child_pipeline.specs.Tickets.{AreKeptBy, HasTickets, IsRunningAs}
use Rattle.child_pipeline.specs.ChildTraces.{ChildTrace, after_finish, is_in}
use Rattle.print_rounds.specs.Finished.{HasNoneRunning}
use Rattle.print_rounds.specs.StageChecks.{has_child, runs}
use Rattle.print_rounds.specs.RoundTicks.{AreFinishings, Finishing, IsFinishedOff, running_jobs}
use Rattle.print_rounds.proofs.EndLaws.{in_head}
use Rattle.print_rounds.proofs.FreeLaws.{IsWalkedTo, answered, walk_begins, walk_ends, walk_goes_on}
use Rattle.print_rounds.proofs.LookLaws.{all_jobs, ended_rests, finish_same, jobs_to, next_filtered, next_same, no_filtered}

-- If no slot has a running child and the slots have all tickets, no child is running in the trace.
none_running : (slots : Slots) (t : ChildTrace) → HasTickets slots t → HasNoneRunning slots → (ns : List ℕ) → t.running ≡ ns → ns ≡ []
none_running slots t has rests [] is = refl
none_running slots t has rests (n ∷ ns) is =
    let (j, r) = has.owned n (ap (is_in n) is ∙ in_head n ns) in
    absurd (subst IsTicketless r.there (rests j) n r.runs)

-- The slots have the tickets, and no child was started.
pub record IsKeptOn (t : ChildTrace) (slots : Slots) (told : Option ChildTrace) : Type 0 where
  pub kept : AreKeptBy t 0 slots told
  pub orders : kept.now.orders ≡ t.orders

pub finished_off : (slots : Slots) (t : ChildTrace) (told : Option ChildTrace) → IsKeptOn t slots told → HasNoneRunning slots → IsFinishedOff t told
finished_off slots t told on rests =
    let now = on.kept.now in
    let none = none_running slots now on.kept.tickets rests now.running refl in
    let count : length now.running ≡ 0 = ap length none in
    record { now = now; tells = on.kept.tells; none = none; finished = omega (arith, on.kept.balanced, count); orders = on.orders }

-- The result of a finish.
abbrev pub FinishKeeps : Type 0
FinishKeeps = (slots : Slots) (j n : ℕ) (t : ChildTrace) (new : Slots) (told : Option ChildTrace) → HasTickets slots t → IsRunningAs slots j n → Waits (Some t) n slots j new told → AreKeptBy t 0 new told

runs_as : (slots : Slots) (j n : ℕ) → (slot_in slots j).progress ≡ Running n → IsRunningAs slots j n
runs_as slots j n is = by_slot (finite.get slots j) refl is
  where
    by_slot : (o : Option (Slot ℕ)) → finite.get slots j ≡ o → (unwrap_or o (begun 0 0)).progress ≡ Running n → IsRunningAs slots j n
    by_slot None there is = absurd (cc)
    by_slot (Some slot) there is = record { slot = slot; there = there; runs = is }

pub kept_on : FinishKeeps → (t : ChildTrace) (slots : Slots) (told : Option ChildTrace) (j : ℕ) (new : Slots) (told' : Option ChildTrace) → IsRunning (finite.get slots j) → FinishesStage told slots j new told' → IsKeptOn t slots told → IsKeptOn t new told'
kept_on law t slots told j new told' going finishes on = by_progress (slot_in slots j).progress refl finishes
  where
    not_off : (p : Progress ℕ) → (slot_in slots j).progress ≡ p → is_running p ≡ false → ⊥
    not_off p is off = by_slot (finite.get slots j) refl going
      where
        by_slot : (o : Option (Slot ℕ)) → finite.get slots j ≡ o → IsRunning o → ⊥
        by_slot None there going = going
        by_slot (Some slot) there going =
            let at : slot.progress ≡ p = sym (ap (λ o. (unwrap_or o (begun 0 0)).progress) there) ∙ is in
            let on : is_running p ≡ true = ap is_running (sym at) ∙ going in
            absurd (cc)

    by_progress : (p : Progress ℕ) → (slot_in slots j).progress ≡ p → FinishesFrom p told slots j new told' → IsKeptOn t new told'
    by_progress (Ready input) is fin = absurd fin
    by_progress (Ended finish) is fin = absurd (not_off (Ended finish) is refl)
    by_progress (Running n) is fin =
        let now = on.kept.now in
        let runs_now : IsRunningAs slots j n = runs_as slots j n is in
        let waited : Waits (Some now) n slots j new told' = subst (λ o. Waits o n slots j new told') on.kept.tells fin in
        let next : AreKeptBy now 0 new told' = law slots j n now new told' on.kept.tickets runs_now waited in
        let told_so : told' ≡ Some (after_finish now n) = (waited.answer (on.kept.tickets.running j n runs_now)).1 in
        let same : next.now ≡ after_finish now n = ap (λ o. unwrap_or o next.now) (sym next.tells ∙ told_so) in
        record {
          kept = record { now = next.now; tells = next.tells; tickets = next.tickets; balanced = omega (arith, on.kept.balanced, next.balanced) };
          orders = ap (λ (x : ChildTrace). x.orders) same ∙ on.orders;
        }

-- One more finish.
more_finishings : (slots mid : Slots) (told told' : Option ChildTrace) (fs : List Finishing) (f : Finishing) → AreFinishings slots told fs mid told' → FinishesStage told' mid f.job f.slots f.told → AreFinishings slots told (fs ++ f ∷ []) f.slots f.told
more_finishings slots mid told told' [] f (same, tells) is = (subst (λ m. FinishesStage told m f.job f.slots f.told) same (subst (λ o. FinishesStage o mid f.job f.slots f.told) tells is), (refl, refl))
more_finishings slots mid told told' (x ∷ fs) f (first, more) is = (first, more_finishings x.slots mid x.told told' fs f more is)

-- The jobs up to one have no running child: each that ran was finished, and no ticket is lost.
pub record AreFinishedTo (old : Slots) (told : Option ChildTrace) (behind : Option ℕ) (new : Slots) (told' : Option ChildTrace) : Type 0 where
  pub walked : IsWalkedTo (λ j o. IsTicketless o) old behind new
  pub steps : (fs : List Finishing) × AreFinishings old told fs new told' × (map (λ f. f.job) fs ≡ filter (runs old) (jobs_to behind (finite.keys old)))
  pub kept : (t : ChildTrace) → told ≡ Some t → HasTickets old t → IsKeptOn t new told'

pub none_yet : (old : Slots) (told : Option ChildTrace) → AreFinishedTo old told None old told
none_yet old told = record {
  walked = walk_begins (λ j o. IsTicketless o) old (λ j gone. tt);
  steps = ([], (refl, refl), sym (no_filtered (runs old) old));
  kept = λ t tells has. record { kept = record { now = t; tells = tells; tickets = has; balanced = omega arith }; orders = refl };
}

module _ (old : Slots) (told : Option ChildTrace) (behind : Option ℕ) (now : Slots) (told' : Option ChildTrace) (so_far : AreFinishedTo old told behind now told') where
  module _ (k : ℕ) (next : IsNextJob now behind (Some k)) where
    -- The job's slot is as it was at the start.
    at_first : runs now k ≡ runs old k
    at_first = ap has_child (so_far.walked.ahead k next.0)

    further : (b : Bool) → runs now k ≡ b → filter (runs old) (jobs_to (Some k) (finite.keys old)) ≡ filter (runs old) (jobs_to behind (finite.keys old)) ++ cond b (k ∷ []) []
    further b is = next_filtered (runs old) old behind k (next_same old now behind (Some k) so_far.walked.ahead next) ∙ ap (λ c. filter (runs old) (jobs_to behind (finite.keys old)) ++ cond c (k ∷ []) []) (sym at_first ∙ is)

    -- It had no child.
    pub stays : IsTicketless (finite.get now k) → AreFinishedTo old told (Some k) now told'
    stays rests =
        let (fs, are, jobs) = so_far.steps in
        record {
          walked = walk_goes_on (λ j o. IsTicketless o) old (λ j gone. tt) behind now so_far.walked k next now (λ j other. refl) rests;
          steps = (fs, are, jobs ∙ sym (append-nil _) ∙ sym (further false (sym (answered false (finite.get now k) (λ is. absurd (cc)) (λ is. rests)))));
          kept = so_far.kept;
        }

    -- It had a child, which was finished.
    pub waits : FinishKeeps → (new : Slots) (told'' : Option ChildTrace) → IsRunning (finite.get now k) → FinishesStage told' now k new told'' → IsEnded (finite.get new k) → AreFinishedTo old told (Some k) new told''
    waits law new told'' going finishes ended =
        let (fs, are, jobs) = so_far.steps in
        let f : Finishing = record { job = k; slots = new; told = told'' } in
        record {
          walked = walk_goes_on (λ j o. IsTicketless o) old (λ j gone. tt) behind now so_far.walked k next new (finish_same told' now k new told'' finishes) (ended_rests (finite.get new k) ended);
          steps = (
            fs ++ f ∷ [],
            more_finishings old now told told' fs f are finishes,
            map-append (λ (x : Finishing). x.job) fs (f ∷ []) ∙ ap (λ js. js ++ k ∷ []) jobs ∙ sym (further true (sym (answered true (finite.get now k) (λ is. going) (λ is. absurd (cc))))),
          );
          kept = λ t tells has. kept_on law t now told' k new told'' going finishes (so_far.kept t tells has);
        }

  -- No slot is left to visit.
  module _ (none : IsNextJob now behind None) where
    pub all_rest_then : HasNoneRunning now
    all_rest_then = walk_ends (λ j o. IsTicketless o) old (λ j gone. tt) behind now so_far.walked none

    pub all_finished : (fs : List Finishing) × AreFinishings old told fs now told' × (map (λ f. f.job) fs ≡ running_jobs old)
    all_finished =
        let (fs, are, jobs) = so_far.steps in
        (fs, are, jobs ∙ ap (filter (runs old)) (all_jobs old behind (next_same old now behind None so_far.walked.ahead none)))
