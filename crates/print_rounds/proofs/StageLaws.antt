-- Each child that a round starts is finished in it and, if nothing failed, the steps are Script's.
use Rattle.std.proofs.Common.{◌≡◌, ℕ, List, [], ◌++◌, map, Some, refl, sym, ap, subst, ◌∙◌}
use Rattle.std.specs.FinMap as finite
use Rattle.spool_disk.specs.Disk.{DiskView}
use Rattle.filter_args.specs.declared.place.Place.{Place}
use Rattle.child_pipeline.specs.StageSlots.{IsTicketless}
use Rattle.child_pipeline.specs.ChildTraces.{ChildTrace, is_in}
use Rattle.print_rounds.specs.Counts.{started_in}
use Rattle.print_rounds.specs.RunStates.{RunState, Ending, run_state, IsRunOfStages, AreEndings}
use Rattle.print_rounds.specs.Faultless.{IsPlayed, AreExact}
use Rattle.print_rounds.specs.Finished.{AreDistinct, AllRest, AreStarted, AreFinished, EachFinishedOnce, HasNoneRunning, running_in}
use Rattle.print_rounds.specs.RoundScript.{Play, play_from, play_stages, plays, play_launch, play_end}
use Rattle.print_rounds.proofs.EndLaws.{ends_finished, ends_rest}
use Rattle.print_rounds.proofs.LaunchLaws.{HasNumbers, all_started, launches_same, some_of}
use Rattle.print_rounds.proofs.PlayLaws.{all_played, play_at}
use Rattle.print_rounds.proofs.ReadLaws.{reads_state}
use Rattle.print_rounds.proofs.ReportLaws.{all_ended, play_after}

module _ {D : Type 0} (device : DiskView D) (place : Place) (old : RunState D) (js : List ℕ) (new : RunState D) (numbers : HasNumbers old.spool.state) (runs : IsRunOfStages device place old js new) where
  -- No child is still running.
  pub none_run : HasNoneRunning old.slots → HasNoneRunning new.slots
  none_run rests k = ends_rest device (run_state runs.read runs.slots runs.told) runs.endings new runs.ends k (λ out.
      let same : finite.get runs.slots k ≡ finite.get old.slots k = launches_same place old.spool.state numbers old.slots old.told runs.launchings runs.slots runs.told runs.starts k (ap (is_in k) (runs.started ∙ sym runs.ended) ∙ out) in
      subst IsTicketless (sym same) (rests k))

  pub each_once : AreDistinct js → AllRest old.slots js → (t : ChildTrace) → old.told ≡ Some t → t.running ≡ [] → EachFinishedOnce t new.told js
  each_once distinct rests t tells none =
      let all = all_started place old.spool.state numbers t old.slots old.told runs.launchings runs.slots runs.told runs.starts tells (subst (λ ks. AllRest old.slots ks) (sym runs.started) rests) (subst AreDistinct (sym runs.started) distinct) in
      let started : AreStarted t runs.slots js all.now = subst (λ ks. AreStarted t runs.slots ks all.now) runs.started all.are in
      let running : all.now.running ≡ running_in runs.slots (map (λ (e : Ending D). e.job) runs.endings) = started.running ∙ ap (λ ns. ns ++ running_in runs.slots js) none ∙ ap (λ ks. running_in runs.slots ks) (sym runs.ended) in
      let ends = ends_finished device all.now (run_state runs.read runs.slots runs.told) runs.endings new runs.ends all.tells running (subst AreDistinct (sym runs.ended) distinct) in
      record {
        between = all.now;
        slots = runs.slots;
        started = started;
        now = ends.0;
        tells = ends.1;
        finished = subst (λ ks. AreFinished all.now runs.slots ks ends.0) runs.ended ends.2;
      }

  -- If nothing failed, the steps of Script.
  pub all_exact : AreDistinct js → AllRest old.slots js → AreExact device place old js new runs
  all_exact distinct rests t before documents tells none served told handed =
      let p : Play = record (play_from old.spool.state old.slots t) { events = before } in
      let all = all_started place old.spool.state numbers t old.slots old.told runs.launchings runs.slots runs.told runs.starts tells (subst (λ ks. AllRest old.slots ks) (sym runs.started) rests) (subst AreDistinct (sym runs.started) distinct) in
      let (t1, tells1, played) = all_played place documents p numbers old.told runs.launchings runs.slots runs.told tells runs.starts served handed in
      let same : all.now ≡ t1 = some_of all.now t1 (sym all.tells ∙ tells1) in
      let p1 : Play = play_at p runs.slots t1 (started_in runs.launchings) in
      let launched : plays (play_launch place documents) p js ≡ p1 = ap (λ ks. plays (play_launch place documents) p ks) (sym runs.started) ∙ played in
      let running : t1.running ≡ running_in runs.slots (map (λ (e : Ending D). e.job) runs.endings) =
      ap (λ (x : ChildTrace). x.running) (sym same) ∙ all.are.running ∙ ap (λ ns. ns ++ running_in runs.slots (map (λ l. l.job) runs.launchings)) none ∙ ap (λ ks. running_in runs.slots ks) (runs.started ∙ sym runs.ended) in
      let ends_on : AreEndings device (run_state runs.read runs.slots (Some t1)) runs.endings new = subst (λ o. AreEndings device (run_state runs.read runs.slots o) runs.endings new) tells1 runs.ends in
      let (t2, tells2, ended) = all_ended device p1 runs.read runs.endings new (reads_state device old.spool runs.launchings runs.read runs.reads) running (subst AreDistinct (sym runs.ended) distinct) ends_on told in
      let whole : play_after device p1 runs.endings new t2 ≡ play_stages place documents p js =
      sym ended ∙ ap (λ ks. plays play_end p1 ks) runs.ended ∙ ap (λ q. plays play_end q js) (sym launched) in
      subst (IsPlayed device place old js new runs before) whole (record { state = refl; slots = refl; told = tells2; events = refl; started = refl; ended = refl })
