-- A round is a call of a StageHistory.
use Rattle.std.proofs.Common.{◌≡◌, ◌⊎◌, inl, inr, ℕ, false, List, [], ◌++◌, map, Some, refl, sym, ap, subst, ◌∙◌, append-nil}
use Rattle.std.proofs.lemmas.Bool.{both_ways}
use Rattle.spool_disk.specs.Disk.{DiskView}
use Rattle.job_table.specs.EventFold.{after_all, AreAccepted}
use Rattle.job_table.specs.Legal.{IsLegal}
use Rattle.job_table.specs.Stages.{Key, IsIn, IsSpent}
use Rattle.spool_core.specs.OpenSpools.{OpenSpool}
use Rattle.filter_args.specs.declared.place.Place.{Place}
use Rattle.child_pipeline.specs.StageSlots.{Slots}
use Rattle.child_pipeline.specs.ChildTraces.{ChildTrace}
use Rattle.print_rounds.specs.Counts.{starting_events, ending_events}
use Rattle.print_rounds.specs.RunStates.{RunState, run_state, Starting, AreStartings, IsRunOfStages}
use Rattle.print_rounds.specs.Finished.{AreDistinct, HasNoneRunning, running_in}
use Rattle.print_rounds.specs.RoundScript.{current_slots}
use Rattle.print_rounds.specs.StageHistory.{keys_in, IsHeld, IsStageCall}
use Rattle.print_rounds.proofs.BusyLaws.{all_rest}
use Rattle.print_rounds.proofs.EndLaws.{ends_finished}
use Rattle.print_rounds.proofs.FreeLaws.{current_rests}
use Rattle.print_rounds.proofs.HoldLaws.{Laws, held_begun, launches_begun, ends_going}
use Rattle.print_rounds.proofs.KeyLaws.{accepted_both, starts_accepted, ends_accepted}
use Rattle.print_rounds.proofs.LaunchLaws.{HasNumbers, all_started, some_of}
use Rattle.print_rounds.proofs.PartLaws.{starts_part, ends_part}
use Rattle.print_rounds.proofs.PrefixLaws.{after_both}
use Rattle.print_rounds.proofs.ReadLaws.{reads_state}
use Rattle.print_rounds.proofs.VersionLaws.{raised_turn}

module _ {D : Type 0} (device : DiskView D) (laws : Laws) (old : RunState D) (legal : IsLegal old.spool.state) (mid : OpenSpool D) (ts : List (Starting D)) (starts : AreStartings device old.spool ts mid) where
  -- A stage that was held at the start is still held, or is spent.
  held_going : (k : Key) → IsHeld old.spool.state old.slots k → IsHeld mid.state (current_slots old.spool.state old.slots) k ⊎ IsSpent mid.state k
  held_going k held =
      let table = (starts_part device old.spool ts mid starts).table in
      elim (laws.left old.spool.state k (starting_events old.spool ts) legal held.0) [
        | inl still ↦ inl (subst (λ s. IsIn s k) (sym table) still, held_begun old.spool.state old.slots k held)
        | inr gone ↦ inr (subst (λ s. IsSpent s k) (sym table) gone)
      ]

  legal_mid : IsLegal mid.state
  legal_mid = subst IsLegal (sym (starts_part device old.spool ts mid starts).table) (laws.legal old.spool.state (starting_events old.spool ts) legal)

  -- The events of a round are accepted in order.
  pub live_accepted : (place : Place) (js : List ℕ) (new : RunState D) (runs : IsRunOfStages device place (run_state mid (current_slots old.spool.state old.slots) old.told) js new) → AreAccepted old.spool.state (starting_events old.spool ts ++ ending_events runs.endings)
  live_accepted place js new runs =
      let same = reads_state device mid runs.launchings runs.read runs.reads ∙ (starts_part device old.spool ts mid starts).table in
      accepted_both old.spool.state (starting_events old.spool ts) (ending_events runs.endings) (starts_accepted device old.spool ts mid starts)
      (subst (λ s. AreAccepted s (ending_events runs.endings)) same (ends_accepted device (run_state runs.read runs.slots runs.told) runs.endings new runs.ends))

  pub failed_accepted : AreAccepted old.spool.state (starting_events old.spool ts ++ [])
  failed_accepted = subst (AreAccepted old.spool.state) (sym (append-nil (starting_events old.spool ts))) (starts_accepted device old.spool ts mid starts)

  -- The device failed at a start.
  pub failed_turn : HasNoneRunning old.slots → (t : ChildTrace) → old.told ≡ Some t → old.spool.dead ≡ false → IsStageCall t old (starting_events old.spool ts ++ []) (run_state mid (current_slots old.spool.state old.slots) old.told)
  failed_turn rests t tells alive = record {
    now = t;
    tells = tells;
    orders = [];
    added = sym (append-nil t.orders);
    turn = raised_turn laws old.spool.state (starting_events old.spool ts ++ []) failed_accepted
        (IsHeld old.spool.state old.slots) [] mid.state (IsHeld mid.state (current_slots old.spool.state old.slots)) mid.dead legal
        ((starts_part device old.spool ts mid starts).table ∙ ap (after_all old.spool.state) (sym (append-nil (starting_events old.spool ts))))
        tt
        (λ k among. absurd among)
        (λ k among. absurd among)
        (λ goes_on k some. elim some [
          | inl held ↦ held_going k held
          | inr none ↦ absurd none
        ]);
    after_over = λ died. absurd (both_ways _ alive died);
  }

  module _ (place : Place) (js : List ℕ) (new : RunState D) (runs : IsRunOfStages device place (run_state mid (current_slots old.spool.state old.slots) old.told) js new) (distinct : AreDistinct js) (rests : HasNoneRunning old.slots) (rests_then : HasNoneRunning new.slots) (t : ChildTrace) (tells : old.told ≡ Some t) (quiet : t.running ≡ []) where
    numbers : HasNumbers mid.state
    numbers j r there = (legal_mid.jobs j r there).id

    -- A stage that is held before the ends is held after them, or is spent.
    going_on : (k : Key) → IsHeld mid.state runs.slots k ⊎ IsSpent mid.state k → IsHeld new.spool.state new.slots k ⊎ IsSpent new.spool.state k
    going_on k going =
        let still : runs.read.state ≡ mid.state = reads_state device mid runs.launchings runs.read runs.reads in
        ends_going device laws k (run_state runs.read runs.slots runs.told) runs.endings new runs.ends (subst IsLegal (sym still) legal_mid) (subst (λ s. IsHeld s runs.slots k ⊎ IsSpent s k) (sym still) going)

    -- A stage of each processing job was run.
    pub live_turn : old.spool.dead ≡ false → IsStageCall t old (starting_events old.spool ts ++ ending_events runs.endings) new
    live_turn alive =
        let slots : Slots = current_slots old.spool.state old.slots in
        let begun = launches_begun place mid.state numbers t slots old.told runs.launchings runs.slots runs.told runs.starts tells in
        let started = all_started place mid.state numbers t slots old.told runs.launchings runs.slots runs.told runs.starts tells
        (all_rest slots (current_rests old.spool.state old.slots rests) (map (λ l. l.job) runs.launchings)) (subst AreDistinct (sym runs.started) distinct) in
        let same : started.now ≡ begun.now = some_of started.now begun.now (sym started.tells ∙ begun.tells) in
        let running = started.are.running ∙ ap (λ ns. ns ++ running_in runs.slots (map (λ l. l.job) runs.launchings)) quiet ∙ ap (running_in runs.slots) (runs.started ∙ sym runs.ended) in
        let ended = ends_finished device begun.now (run_state runs.read runs.slots runs.told) runs.endings new runs.ends begun.tells
        (ap (λ (u : ChildTrace). u.running) (sym same) ∙ running) (subst AreDistinct (sym runs.ended) distinct) in
        let first = (starts_part device old.spool ts mid starts).table in
        let still = reads_state device mid runs.launchings runs.read runs.reads in
        let last : new.spool.state ≡ after_all mid.state (ending_events runs.endings) = (ends_part device (run_state runs.read runs.slots runs.told) runs.endings new runs.ends).table ∙ ap (λ s. after_all s (ending_events runs.endings)) still in
        record {
          now = ended.0;
          tells = ended.1;
          orders = begun.orders;
          added = ended.2.orders ∙ begun.added;
          turn = raised_turn laws old.spool.state (starting_events old.spool ts ++ ending_events runs.endings) (live_accepted place js new runs)
              (IsHeld old.spool.state old.slots) (keys_in begun.orders) new.spool.state (IsHeld new.spool.state new.slots) new.spool.dead legal
              (last ∙ ap (λ s. after_all s (ending_events runs.endings)) first ∙ sym (after_both old.spool.state (starting_events old.spool ts) (ending_events runs.endings)))
              begun.once
              (λ k among held. elim (held_going k held) [
                | inl now ↦ begun.fresh k among now.1
                | inr gone ↦ laws.either mid.state k legal_mid (begun.inside k among) gone
              ])
              (λ k among. record { first = starting_events old.spool ts; rest = ending_events runs.endings; split = refl; reached = subst (λ s. IsIn s k) first (begun.inside k among) })
              (λ goes_on k some. elim some [
                | inl held ↦ (going_on k (elim (held_going k held) [
                  | inl now ↦ inl (now.0, begun.kept k now.0 now.1)
                  | inr gone ↦ inr gone
                ]))
                | inr among ↦ (going_on k (inl (begun.inside k among, begun.begun k among)))
              ]);
          after_over = λ died. absurd (both_ways _ alive died);
        }
