-- A round passes on the outputs that the rounds before it stored.
use Rattle.std.proofs.Common.{◌≡◌, ℕ, Bool, true, false, cond, List, [], ◌++◌, map, Option, Some, None, Result, sym, ap, subst, ◌∙◌}
use Rattle.std.specs.FinMap as finite
use Rattle.spool_disk.specs.Disk.{DiskView}
use Rattle.spool_types.specs.declared.event.Event.{Event}
use Rattle.spool_types.specs.State.{State, job_at}
use Rattle.job_table.specs.EventFold.{after_all}
use Rattle.job_table.specs.Legal.{IsLegal}
use Rattle.filter_args.specs.declared.place.Place.{Place}
use Rattle.child_pipeline.specs.StageSlots.{Slots, IsTicketless}
use Rattle.child_pipeline.specs.ChildTraces.{ChildTrace, is_in}
use Rattle.child_pipeline.specs.declared.runner.Slot.{Slot}
use Rattle.print_rounds.specs.Counts.{starting_events}
use Rattle.print_rounds.specs.RunStates.{RunState, run_state}
use Rattle.print_rounds.specs.Finished.{AreDistinct, HasNoneRunning, running_in}
use Rattle.print_rounds.specs.Inputs.{AnsweredOrder, answered, AreKeptFrom, HandsOn}
use Rattle.print_rounds.specs.Rounds.{IsRoundOf}
use Rattle.print_rounds.specs.RoundScript.{current_slots, is_current}
use Rattle.print_rounds.specs.declared.outcome.Round.{Round}
use Rattle.print_rounds.specs.declared.outcome.RoundFault.{RoundFault}
use Rattle.print_rounds.proofs.BusyLaws.{all_rest}
use Rattle.print_rounds.proofs.EndLaws.{ends_rest}
use Rattle.print_rounds.proofs.FreeLaws.{current_rests, get_current}
use Rattle.print_rounds.proofs.InputLaws.{AreDue, all_on, ends_on}
use Rattle.print_rounds.proofs.LaunchLaws.{HasNumbers, all_started, launches_same, some_of}
use Rattle.print_rounds.proofs.PartLaws.{starts_part}
use Rattle.print_rounds.proofs.ReadLaws.{reads_state}

pub left_there : (b : Bool) (o : Option (Slot ℕ)) (slot : Slot ℕ) → cond b o None ≡ Some slot → o ≡ Some slot
left_there true o slot is = is
left_there false o slot is = absurd (cc)

current_kept : (xs : List AnsweredOrder) (s : State) (slots : Slots) → AreKeptFrom xs slots → AreKeptFrom xs (current_slots s slots)
current_kept xs s slots kept j slot there = kept j slot (left_there (is_current (job_at s j) (finite.get slots j)) (finite.get slots j) slot (sym (get_current s slots j) ∙ there))

module _ {D : Type 0} (device : DiskView D) (stays : (s : State) (events : List Event) → IsLegal s → IsLegal (after_all s events)) where
  pub round_hands : (place : Place) (earlier : List AnsweredOrder) (t : ChildTrace) (old new : RunState D) (result : Result Round RoundFault) → IsLegal old.spool.state → old.told ≡ Some t → t.running ≡ [] → HasNoneRunning old.slots → AreKeptFrom earlier old.slots
      → (r : IsRoundOf device place old new result) → HandsOn earlier t r.steps.launchings new
  round_hands place earlier t old new result legal tells quiet rests kept r =
      let steps = r.steps in
      let made = r.made in
      let slots : Slots = current_slots old.spool.state old.slots in
      let js : List ℕ = map (λ l. l.job) steps.launchings in
      let same_jobs : map (λ e. e.job) steps.endings ≡ js = made.ended ∙ sym made.launched in
      let legal_mid : IsLegal steps.mid.state = subst IsLegal (sym (starts_part device old.spool steps.startings steps.mid made.starts).table) (stays old.spool.state (starting_events old.spool steps.startings) legal) in
      let numbers : HasNumbers steps.mid.state = λ j r there. (legal_mid.jobs j r there).id in
      let resting : HasNoneRunning slots = current_rests old.spool.state old.slots rests in
      let on = all_on place steps.mid.state numbers earlier t t.finishes slots old.told steps.launchings steps.slots steps.told made.launches tells (current_kept earlier old.spool.state old.slots kept) (all_rest slots resting js) made.once in
      let started = all_started place steps.mid.state numbers t slots old.told steps.launchings steps.slots steps.told made.launches tells (all_rest slots resting js) made.once in
      let same : started.now ≡ on.now = some_of started.now on.now (sym started.tells ∙ on.tells) in
      let running : on.now.running ≡ running_in steps.slots (map (λ e. e.job) steps.endings) =
      sym (ap (λ (u : ChildTrace). u.running) same) ∙ started.are.running ∙ ap (λ ns. ns ++ running_in steps.slots js) quiet ∙ ap (running_in steps.slots) (sym same_jobs) in
      let still : steps.read.state ≡ steps.mid.state = reads_state device steps.mid steps.launchings steps.read made.reads in
      let ends = ends_on device (earlier ++ on.each) stays on.now (run_state steps.read steps.slots steps.told) steps.endings new on.left made.ends (subst IsLegal (sym still) legal_mid) on.tells running
      (subst AreDistinct (sym same_jobs) made.once)
      (subst (λ fs. AreDue (earlier ++ on.each) steps.slots (map (λ e. e.job) steps.endings) fs on.left) (sym on.finishes) (subst (λ ks. AreDue (earlier ++ on.each) steps.slots ks t.finishes on.left) (sym same_jobs) on.due)) on.kept in
      record {
        now = ends.now;
        tells = ends.tells;
        orders = on.orders;
        added = ends.orders ∙ on.added;
        each = on.each;
        all = on.all;
        answers = λ more. on.answers more ∙ ap (λ xs. on.each ++ answered xs on.left more) (sym ends.starts) ∙ ap (λ fs. on.each ++ answered ends.now.starts fs more) (sym ends.finishes);
        right = on.right;
        documents = on.documents;
        kept = ends.kept;
        rests = λ k. ends_rest device (run_state steps.read steps.slots steps.told) steps.endings new made.ends k (λ out.
            subst IsTicketless (sym (launches_same place steps.mid.state numbers slots old.told steps.launchings steps.slots steps.told made.launches k (ap (is_in k) (sym same_jobs) ∙ out))) (resting k));
      }
