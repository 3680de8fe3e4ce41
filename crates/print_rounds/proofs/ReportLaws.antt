-- If nothing failed, the ends of stages are those of Script.
use Rattle.std.proofs.Common.{◌≡◌, ℕ, ◌+◌, true, false, List, [], ◌∷◌, ◌++◌, map, fold, Option, Some, None, unwrap_or, Result, Ok, Err, refl, sym, ap, subst, ◌∙◌, append_assoc, append-nil, add-zero}
use Rattle.spool_disk.specs.Disk.{DiskView}
use Rattle.std.specs.FinMap as finite
use Rattle.spool_types.specs.declared.event.Event.{Event}
use Rattle.spool_types.specs.declared.event.Event.TheVariants.{Stage}
use Rattle.spool_types.specs.declared.event.Reply.{Reply}
use Rattle.spool_types.specs.declared.refusal.Refusal.{Refusal}
use Rattle.spool_types.specs.State.{State}
use Rattle.job_table.specs.Step.{after, reply_to, step, refusal_of, answered}
use Rattle.spool_core.specs.OpenSpools.{OpenSpool, IsAnswer}
use Rattle.spool_core.specs.declared.spool.apply_fault.ApplyFault.{ApplyFault}
use Rattle.spool_core.specs.declared.spool.apply_fault.ApplyFault.TheVariants as faults
use Rattle.child_pipeline.specs.Tickets.{IsRunningAs}
use Rattle.child_pipeline.specs.ChildTraces.{ChildTrace, is_in, after_finish}
use Rattle.child_pipeline.specs.StageSlots.{Slots, slot_in, begun, put_progress, end_in, FinishesFrom, Waits, is_ready}
use Rattle.child_pipeline.specs.declared.runner.Progress.{Progress}
use Rattle.child_pipeline.specs.declared.runner.Progress.TheVariants.{Ready, Running, Ended}
use Rattle.child_pipeline.specs.declared.runner.Slot.{Slot}
use Rattle.print_rounds.specs.RunStates.{RunState, run_state, AreEndings, Ending, IsReport, IsEnding, IsEndingOf, is_silent, moved_by}
use Rattle.print_rounds.specs.Counts.{report_events, told_by, ending_events}
use Rattle.print_rounds.specs.declared.outcome.Report.{Report}
use Rattle.print_rounds.specs.declared.outcome.Report.TheVariants as reports
use Rattle.print_rounds.specs.Finished.{AreDistinct, with_number, with_slot, running_in}
use Rattle.print_rounds.specs.Faultless.{IsTold, AllTold}
use Rattle.print_rounds.specs.RoundScript.{Play, play_end, ended_if, waited, waited_by, reported, plays}
use Rattle.print_rounds.proofs.EndLaws.{in_head, report_same, one_end, running_same}

-- An accepted event results in the table and the reply of the step.
pub done_state : (s : State) (e : Event) (o : Option Refusal) (new : State) (reply : Reply) → refusal_of s e ≡ o → o ≡ None → step s e ≡ Ok (new, reply) → (after s e ≡ new) × (reply_to s e ≡ reply)
done_state s e o new reply is none stepped =
    let both : Ok (after s e, reply_to s e) ≡ Ok (new, reply) = sym (ap (answered s e) (is ∙ none)) ∙ stepped in
    (ap (λ r. (pair_of r).0) both, ap (λ r. (pair_of r).1) both)
  where
    pair_of : Result (State × Reply) Refusal → State × Reply
    pair_of (Ok p) = p
    pair_of (Err r) = (s, reply)

-- The child of the first job is running in the trace.
head_runs : (t : ChildTrace) (slots : Slots) (j : ℕ) (js : List ℕ) → t.running ≡ running_in slots (j ∷ js) → (n : ℕ) → IsRunningAs slots j n → is_in n t.running ≡ true
head_runs t slots j js runs n r =
    let first : running_in slots (j ∷ js) ≡ n ∷ running_in slots js = ap (λ o. with_slot o (running_in slots js)) r.there ∙ ap (λ v. with_number v (running_in slots js)) r.runs in
    ap (λ ns. is_in n ns) (runs ∙ first) ∙ in_head n (running_in slots js)

module _ {D : Type 0} (device : DiskView D) where
  -- An event that is not acknowledged does not change the table.
  pub fault_state : (old : OpenSpool D) (e : Event) (fault : ApplyFault) (new : OpenSpool D) → IsAnswer device old e (Err fault) new → new.state ≡ old.state
  fault_state old e faults.Dead new (dead, same) = ap (λ (x : OpenSpool D). x.state) same
  fault_state old e (faults.Refused refusal) new (alive, refused, same) = ap (λ (x : OpenSpool D). x.state) same
  fault_state old e faults.Memory new (alive, accepted, same) = ap (λ (x : OpenSpool D). x.state) same
  fault_state old e faults.Full new (full, same) = ap (λ (x : OpenSpool D). x.state) same
  fault_state old e faults.Disk new failed = failed.state

  told_play : (p : Play) (mid next : RunState D) (j : ℕ) (report : Report) → IsReport device mid j report next → IsTold report → mid.spool.state ≡ p.state → mid.slots ≡ p.slots → reported p j ≡ record p { state = next.spool.state; slots = next.slots; events = p.events ++ report_events (Stage (end_in mid.slots j)) report; ended = p.ended + told_by report }
  told_play p mid next j reports.Silent report told state slots = absurd report
  told_play p mid next j reports.NoMemory report told state slots = absurd told
  told_play p mid next j (reports.Answered (Err fault)) report told state slots = absurd told
  told_play p mid next j (reports.Answered (Ok reply)) (is, moves, same) told state slots =
      let e : Event = Stage (end_in p.slots j) in
      let at : end_in mid.slots j ≡ end_in p.slots j = ap (λ m. end_in m j) slots in
      let accepted : refusal_of p.state e ≡ None = sym (ap (λ s. refusal_of s e) state) ∙ sym (ap (λ k. refusal_of mid.spool.state (Stage k)) at) ∙ is.cause.fits.accepted in
      let stepped : step p.state e ≡ Ok (next.spool.state, reply) = sym (ap (λ s. step s e) state) ∙ sym (ap (λ k. step mid.spool.state (Stage k)) at) ∙ is.cause.step in
      let (state_is, reply_is) = done_state p.state e (refusal_of p.state e) next.spool.state reply refl accepted stepped in
      let slots_are : moved_by p.slots j (reply_to p.state e) ≡ next.slots = ap (λ r. moved_by p.slots j r) reply_is ∙ sym (ap (λ m. moved_by m j reply) slots) ∙ sym moves in
      ap (λ s. record p { state = s; slots = moved_by p.slots j (reply_to p.state e); events = p.events ++ e ∷ []; ended = p.ended + 1 }) state_is
      ∙ ap (λ m. record p { state = next.spool.state; slots = m; events = p.events ++ e ∷ []; ended = p.ended + 1 }) slots_are
      ∙ ap (λ k. record p { state = next.spool.state; slots = next.slots; events = p.events ++ Stage k ∷ []; ended = p.ended + 1 }) (sym at)

  -- The play after the end of a stage.
  abbrev pub play_past : Play → Ending D → ChildTrace → Play
  play_past p e told = record p {
    state = e.next.spool.state;
    slots = e.next.slots;
    told = told;
    events = p.events ++ report_events (Stage (end_in e.kept.slots e.job)) e.report;
    ended = p.ended + told_by e.report;
  }

  -- The effect of the end of one stage on a play.
  pub record IsOnePlayed (p : Play) (e : Ending D) : Type 0 where
    pub told : ChildTrace
    pub tells : e.next.told ≡ Some told
    pub played : play_end p e.job ≡ play_past p e told

  -- A stage that is reported: its child is finished first, if it is running.
  spoken_play : (p : Play) (e : Ending D) (t' : ChildTrace) → is_silent (finite.get p.slots e.job) ≡ false → waited p e.job ≡ record p { slots = e.kept.slots; told = t' } → e.kept.spool.state ≡ p.state → e.next.told ≡ Some t' → IsReport device e.kept e.job e.report e.next → IsTold e.report → IsOnePlayed p e
  spoken_play p e t' spoken waits state tells report told =
      let mid : Play = record p { slots = e.kept.slots; told = t' } in
      record {
        told = t';
        tells = tells;
        played = ap (ended_if p e.job) spoken ∙ ap (λ q. reported q e.job) waits ∙ told_play mid e.kept e.next e.job e.report report told state refl;
      }

  -- A stage with nothing to report.
  silent_play : (p : Play) (e : Ending D) → is_silent (finite.get p.slots e.job) ≡ true → e.report ≡ reports.Silent → e.next.spool.state ≡ p.state → e.next.slots ≡ p.slots → e.next.told ≡ Some p.told → IsOnePlayed p e
  silent_play p e silent report state slots tells =
      let at : Report → Play = λ r. record p {
        state = e.next.spool.state;
        slots = e.next.slots;
        events = p.events ++ report_events (Stage (end_in e.kept.slots e.job)) r;
        ended = p.ended + told_by r;
      } in
      record {
        told = p.told;
        tells = tells;
        played =
            ap (ended_if p e.job) silent
            ∙ ap (λ s. record p { state = s }) (sym state)
            ∙ ap (λ m. record p { state = e.next.spool.state; slots = m }) (sym slots)
            ∙ ap (λ es. record p { state = e.next.spool.state; slots = e.next.slots; events = es }) (sym (append-nil p.events))
            ∙ ap (λ n. record p { state = e.next.spool.state; slots = e.next.slots; events = p.events ++ []; ended = n }) (sym (add-zero p.ended))
            ∙ ap at (sym report);
      }

  -- The child of a stage is finished as Script states.
  waited_running : (p : Play) (e : Ending D) (slot : Slot ℕ) (n : ℕ) → finite.get p.slots e.job ≡ Some slot → slot.progress ≡ Running n → (fin : Waits (Some p.told) n p.slots e.job e.kept.slots e.kept.told) → is_in n p.told.running ≡ true → (waited p e.job ≡ record p { slots = e.kept.slots; told = after_finish p.told n }) × (e.kept.told ≡ Some (after_finish p.told n))
  waited_running p e slot n there is fin running =
      let at : (slot_in p.slots e.job).progress ≡ Running n = ap (λ o. (unwrap_or o (begun 0 0)).progress) there ∙ is in
      let (finish_is, told_is) = fin.answer running in (
        ap (waited_by p e.job) at
            ∙ ap (λ f. record p { slots = put_progress p.slots e.job (Ended f); told = after_finish p.told n }) (sym finish_is)
            ∙ ap (λ m. record p { slots = m; told = after_finish p.told n }) (sym fin.slots),
        told_is,
      )

  -- One end of a stage whose event was acknowledged.
  pub one_ended : (p : Play) (sp : OpenSpool D) (e : Ending D) → sp.state ≡ p.state → ((n : ℕ) → IsRunningAs p.slots e.job n → is_in n p.told.running ≡ true) → IsEnding device (run_state sp p.slots (Some p.told)) e → IsTold e.report → IsOnePlayed p e
  one_ended p sp e state runs ends served = by_slot (finite.get p.slots e.job) refl
    where
      old : RunState D
      old = run_state sp p.slots (Some p.told)

      silent : is_silent (finite.get p.slots e.job) ≡ true → e.report ≡ reports.Silent → e.next ≡ old → IsOnePlayed p e
      silent is report same = silent_play p e is report (ap (λ (c : RunState D). c.spool.state) same ∙ state) (ap (λ (c : RunState D). c.slots) same) (ap (λ (c : RunState D). c.told) same)

      spoken : is_silent (finite.get p.slots e.job) ≡ false → (t : ChildTrace) → waited p e.job ≡ record p { slots = e.kept.slots; told = t } → e.kept.told ≡ Some t → e.kept.spool ≡ sp → IsReport device e.kept e.job e.report e.next → IsOnePlayed p e
      spoken is t waits tells same report =
          spoken_play p e t is waits (ap (λ (x : OpenSpool D). x.state) same ∙ state) ((report_same device e.kept e.job e.report e.next report).0 ∙ tells) report served

      by_progress : (slot : Slot ℕ) (v : Progress ℕ) → finite.get p.slots e.job ≡ Some slot → slot.progress ≡ v → IsEndingOf device old (is_ready v) e → IsOnePlayed p e
      by_progress slot (Ready input) there is ending = silent (ap is_silent there ∙ ap is_ready is) ending.0 ending.2
      by_progress slot (Running n) there is ending =
          let at : (slot_in p.slots e.job).progress ≡ Running n = ap (λ o. (unwrap_or o (begun 0 0)).progress) there ∙ is in
          let fin : Waits (Some p.told) n p.slots e.job e.kept.slots e.kept.told = subst (λ v. FinishesFrom v (Some p.told) p.slots e.job e.kept.slots e.kept.told) at ending.0 in
          let (waits, tells) = waited_running p e slot n there is fin (runs n (record { slot = slot; there = there; runs = is })) in
          spoken (ap is_silent there ∙ ap is_ready is) (after_finish p.told n) waits tells ending.1 ending.2
      by_progress slot (Ended finish) there is ending =
          let at : (slot_in p.slots e.job).progress ≡ Ended finish = ap (λ o. (unwrap_or o (begun 0 0)).progress) there ∙ is in
          let fin : (e.kept.slots ≡ p.slots) × (e.kept.told ≡ Some p.told) = subst (λ v. FinishesFrom v (Some p.told) p.slots e.job e.kept.slots e.kept.told) at ending.0 in
          spoken (ap is_silent there ∙ ap is_ready is) p.told (ap (waited_by p e.job) at ∙ ap (λ m. record p { slots = m }) (sym fin.0)) fin.1 ending.1 ending.2

      by_slot : (o : Option (Slot ℕ)) → finite.get p.slots e.job ≡ o → IsOnePlayed p e
      by_slot None there = let is = subst (λ o. IsEndingOf device old (is_silent o) e) there ends in silent (ap is_silent there) is.0 is.2
      by_slot (Some slot) there = by_progress slot slot.progress there refl (subst (λ o. IsEndingOf device old (is_silent o) e) there ends)

  some_told : (a b : ChildTrace) → Some a ≡ Some b → a ≡ b
  some_told a b e = ap (λ o. unwrap_or o a) e

  -- The play after the ends of stages.
  abbrev pub play_after : Play → List (Ending D) → RunState D → ChildTrace → Play
  play_after p es new told = record p {
    state = new.spool.state;
    slots = new.slots;
    told = told;
    events = p.events ++ ending_events es;
    ended = fold (λ n e. n + told_by e.report) p.ended es;
  }

  -- If each event was acknowledged, the ends of stages are those of Script.
  pub all_ended : (p : Play) (sp : OpenSpool D) (es : List (Ending D)) (new : RunState D) → sp.state ≡ p.state → p.told.running ≡ running_in p.slots (map (λ e. e.job) es) → AreDistinct (map (λ e. e.job) es) → AreEndings device (run_state sp p.slots (Some p.told)) es new → AllTold es → (t' : ChildTrace) × (new.told ≡ Some t') × (plays play_end p (map (λ e. e.job) es) ≡ play_after p es new t')
  all_ended p sp [] new state runs distinct same told = (
    p.told,
    ap (λ (c : RunState D). c.told) same,
    ap (λ s. record p { state = s }) (sym state)
        ∙ ap (λ (c : RunState D). record p { state = c.spool.state; slots = c.slots }) (sym same)
        ∙ ap (λ es. record p { state = new.spool.state; slots = new.slots; events = es }) (sym (append-nil p.events)),
  )
  all_ended p sp (e ∷ es) new state runs distinct ends told =
      let js : List ℕ = map (λ e. e.job) es in
      let one = one_ended p sp e state (head_runs p.told p.slots e.job js runs) ends.0 told.0 in
      let left = one_end device p.told (run_state sp p.slots (Some p.told)) e js ends.0 refl runs in
      let rest : running_in e.next.slots js ≡ running_in p.slots js = running_same e.job p.slots e.next.slots left.same js distinct.0 in
      let runs_on : one.told.running ≡ running_in e.next.slots js = ap (λ (t : ChildTrace). t.running) (some_told one.told left.told (sym one.tells ∙ left.tells)) ∙ left.running ∙ sym rest in
      let p1 : Play = play_past p e one.told in
      let on : AreEndings device (run_state e.next.spool p1.slots (Some p1.told)) es new = subst (λ o. AreEndings device (run_state e.next.spool e.next.slots o) es new) one.tells ends.1 in
      let (t', tells, more) = all_ended p1 e.next.spool es new refl runs_on distinct.1 on told.1 in (
        t',
        tells,
        ap (λ q. plays play_end q js) one.played
            ∙ more
            ∙ ap (λ events. record (play_after p (e ∷ es) new t') { events = events }) (append_assoc p.events (report_events (Stage (end_in e.kept.slots e.job)) e.report) (ending_events es)),
      )
