-- The effect of a part of a round: the table after the events acknowledged in it.
use Rattle.std.proofs.Common.{◌≡◌, inl, inr, ◌≤◌, ℕ, Bool, true, false, List, [], ◌∷◌, ◌++◌, Option, Some, None, Ok, Err, refl, sym, ap, subst, ◌∙◌, append_assoc, append-nil, arith}
use Rattle.std.specs.FinMap as finite
use Rattle.std.specs.Prelude.{◌↔◌, IsSome}
use Rattle.spool_disk.specs.Disk.{DiskView, IsLawful}
use Rattle.spool_types.specs.declared.event.Event.{Event}
use Rattle.spool_types.specs.declared.event.Event.TheVariants.{Start, Stage}
use Rattle.spool_types.specs.declared.event.Reply.{Reply}
use Rattle.job_table.specs.Attempts.{next_of}
use Rattle.job_table.specs.EventFold.{after_one, after_all, unless_refused}
use Rattle.job_table.specs.Step.{refusal_of}
use Rattle.spool_core.specs.OpenSpools.{OpenSpool, IsAnswer, IsDone}
use Rattle.spool_core.specs.declared.spool.apply_fault.ApplyFault.TheVariants as faults
use Rattle.child_pipeline.specs.StageSlots.{end_in}
use Rattle.print_rounds.specs.Counts.{AreAcknowledged, acknowledged_by, tried_by, start_events, start_tried, starting_events, starting_tried, report_events, report_tried, ending_events, ending_tried}
use Rattle.print_rounds.specs.RunStates.{RunState, Answer, IsApplied, Starting, IsStartingOf, AreStartings, Launching, AreReads, Ending, IsEnding, IsEndingOf, AreEndings, IsReport, is_silent}
use Rattle.print_rounds.specs.declared.outcome.Report.{Report}
use Rattle.print_rounds.specs.declared.outcome.Report.TheVariants as reports
use Rattle.print_rounds.proofs.PrefixLaws.{after_both}
use Rattle.print_rounds.proofs.ReadLaws.{reads_counted, reads_over, reads_state, reads_still}
use Rattle.print_rounds.proofs.ReportLaws.{done_state, fault_state}

-- A part of a round, with the events that were tried in it and those that were acknowledged. After a device error nothing is done.
pub record IsPart {D : Type 0} (device : DiskView D) (old : OpenSpool D) (tried events : List Event) (new : OpenSpool D) : Type 0 where
  pub table : new.state ≡ after_all old.state events
  pub acknowledged : new.dead ≡ false → tried ≡ events
  pub in_hand : AreAcknowledged new.dead tried events
  pub dead : old.dead ≡ true → new ≡ old
  pub none : old.dead ≡ true → (tried ≡ []) × (events ≡ [])
  pub counted : device.failures old.disk ≤ device.failures new.disk
  pub told : IsSome (device.bytes new.disk) ↔ IsSome (device.bytes old.disk)

module _ {D : Type 0} (device : DiskView D) where
  -- Nothing is done.
  still : (old new : OpenSpool D) → new ≡ old → IsPart device old [] [] new
  still old new same = record {
    table = ap (λ (x : OpenSpool D). x.state) same;
    acknowledged = λ lives. refl;
    in_hand = inl refl;
    dead = λ is. same;
    none = λ died. (refl, refl);
    counted = subst (λ (x : OpenSpool D). device.failures old.disk ≤ device.failures x.disk) (sym same) (omega arith);
    told = subst (λ (x : OpenSpool D). IsSome (device.bytes x.disk) ↔ IsSome (device.bytes old.disk)) (sym same) (λ k. k, λ k. k);
  }

  -- A device that works after a part worked before it.
  pub alive_before : (mid new : OpenSpool D) (tried events : List Event) → IsPart device mid tried events new → new.dead ≡ false → mid.dead ≡ false
  alive_before mid new tried events part lives = by_dead mid.dead refl
    where
      by_dead : (b : Bool) → mid.dead ≡ b → mid.dead ≡ false
      by_dead true is =
          let died : new.dead ≡ true = ap (λ (x : OpenSpool D). x.dead) (part.dead is) ∙ is in
          absurd (cc)
      by_dead false is = is

  -- One part, followed by another.
  module _ (old mid new : OpenSpool D) (es fs xs ys : List Event) (first : IsPart device old es xs mid) (more : IsPart device mid fs ys new) where
    pub both_parts : IsPart device old (es ++ fs) (xs ++ ys) new
    both_parts = record {
      in_hand = elim first.in_hand [
        | inl all ↦ elim more.in_hand [
          | inl rest ↦ inl (ap (λ l. l ++ fs) all ∙ ap (λ l. xs ++ l) rest)
          | inr failed ↦ inr (failed.0, failed.1, ap (λ l. l ++ fs) all ∙ ap (λ l. xs ++ l) failed.2 ∙ sym (append_assoc xs ys (failed.1 ∷ [])))
        ]
        | inr failed ↦
            let over = more.none failed.0 in
            let same : new ≡ mid = more.dead failed.0 in inr (
              ap (λ (x : OpenSpool D). x.dead) same ∙ failed.0,
              failed.1,
              ap (λ l. l ++ fs) failed.2
                  ∙ ap (λ l. (xs ++ failed.1 ∷ []) ++ l) over.0
                  ∙ append-nil (xs ++ failed.1 ∷ [])
                  ∙ ap (λ l. l ++ failed.1 ∷ []) (sym (append-nil xs) ∙ ap (λ l. xs ++ l) (sym over.1)),
            )
      ];
      none = λ is.
          let same : mid ≡ old = first.dead is in
          let here = first.none is in
          let there = more.none (ap (λ (x : OpenSpool D). x.dead) same ∙ is) in
          (ap (λ l. l ++ fs) here.0 ∙ there.0, ap (λ l. l ++ ys) here.1 ∙ there.1);
      table = more.table ∙ ap (λ s. after_all s ys) first.table ∙ sym (after_both old.state xs ys);
      acknowledged = λ lives. ap (λ l. l ++ fs) (first.acknowledged (alive_before mid new fs ys more lives)) ∙ ap (λ l. xs ++ l) (more.acknowledged lives);
      dead = λ is. let same : mid ≡ old = first.dead is in more.dead (ap (λ (x : OpenSpool D). x.dead) same ∙ is) ∙ same;
      counted = omega (arith, first.counted, more.counted);
      told = (λ k. first.told.0 (more.told.0 k), λ k. more.told.1 (first.told.1 k));
    }

-- ## One event

module _ {D : Type 0} (device : DiskView D) where
  pub done_one : (old : OpenSpool D) (e : Event) (reply : Reply) (new : OpenSpool D) → IsDone old e reply new → new.state ≡ after_one old.state e
  done_one old e reply new done =
      sym (ap (unless_refused old.state e) done.fits.accepted
      ∙ (done_state old.state e (refusal_of old.state e) new.state reply refl done.fits.accepted done.step).0)

  pub answer_table : (old : OpenSpool D) (e : Event) (a : Answer) (new : OpenSpool D) → IsAnswer device old e a new → new.state ≡ after_all old.state (acknowledged_by e a)
  answer_table old e (Ok reply) new done = done_one old e reply new done
  answer_table old e (Err fault) new is = fault_state device old e fault new is

  answer_tried : (old : OpenSpool D) (e : Event) (a : Answer) (new : OpenSpool D) → IsAnswer device old e a new → new.dead ≡ false → tried_by e a ≡ acknowledged_by e a
  answer_tried old e (Ok reply) new is lives = refl
  answer_tried old e (Err faults.Dead) new is lives = refl
  answer_tried old e (Err (faults.Refused refusal)) new is lives = refl
  answer_tried old e (Err faults.Memory) new is lives = refl
  answer_tried old e (Err faults.Full) new is lives = refl
  answer_tried old e (Err faults.Disk) new is lives = let died = is.dead in absurd (cc)

  pub answer_dead : (old : OpenSpool D) (e : Event) (a : Answer) (new : OpenSpool D) → IsAnswer device old e a new → old.dead ≡ true → new ≡ old
  answer_dead old e (Ok reply) new is died = let alive = is.fits.alive in absurd (cc)
  answer_dead old e (Err faults.Dead) new is died = is.1
  answer_dead old e (Err (faults.Refused refusal)) new is died = is.2
  answer_dead old e (Err faults.Memory) new is died = is.2
  answer_dead old e (Err faults.Full) new is died = is.1
  answer_dead old e (Err faults.Disk) new is died = let alive = is.fits.alive in absurd (cc)

  answer_hand : (old : OpenSpool D) (e : Event) (a : Answer) (new : OpenSpool D) → IsAnswer device old e a new → AreAcknowledged new.dead (tried_by e a) (acknowledged_by e a)
  answer_hand old e (Ok reply) new is = inl refl
  answer_hand old e (Err faults.Dead) new is = inl refl
  answer_hand old e (Err (faults.Refused refusal)) new is = inl refl
  answer_hand old e (Err faults.Memory) new is = inl refl
  answer_hand old e (Err faults.Full) new is = inl refl
  answer_hand old e (Err faults.Disk) new is = inr (is.dead, e, refl)

  answer_none : (old : OpenSpool D) (e : Event) (a : Answer) (new : OpenSpool D) → IsAnswer device old e a new → old.dead ≡ true → (tried_by e a ≡ []) × (acknowledged_by e a ≡ [])
  answer_none old e (Ok reply) new is died = let alive = is.fits.alive in absurd (cc)
  answer_none old e (Err faults.Dead) new is died = (refl, refl)
  answer_none old e (Err (faults.Refused refusal)) new is died = (refl, refl)
  answer_none old e (Err faults.Memory) new is died = (refl, refl)
  answer_none old e (Err faults.Full) new is died = (refl, refl)
  answer_none old e (Err faults.Disk) new is died = let alive = is.fits.alive in absurd (cc)

  one_part : (old : OpenSpool D) (e : Event) (a : Answer) (new : OpenSpool D) → IsApplied device old e a new → IsPart device old (tried_by e a) (acknowledged_by e a) new
  one_part old e a new is = record {
    table = answer_table old e a new is.cause;
    acknowledged = answer_tried old e a new is.cause;
    in_hand = answer_hand old e a new is.cause;
    none = answer_none old e a new is.cause;
    dead = answer_dead old e a new is.cause;
    counted = is.counted;
    told = is.told;
  }

-- ## The steps

module _ {D : Type 0} (device : DiskView D) where
  pub start_part : (old : OpenSpool D) (o : Option ℕ) (answer : Option Answer) (new : OpenSpool D) → IsStartingOf device old o answer new → IsPart device old (start_tried o answer) (start_events o answer) new
  start_part old None answer new (none, same) = still device old new same
  start_part old (Some j) None new is = absurd is
  start_part old (Some j) (Some a) new (accepted, is) = one_part device old (Start j) a new is

  pub starts_part : (old : OpenSpool D) (ts : List (Starting D)) (new : OpenSpool D) → AreStartings device old ts new → IsPart device old (starting_tried old ts) (starting_events old ts) new
  starts_part old [] new same = still device old new same
  starts_part old (t ∷ ts) new (start, starts) =
      let o = next_of old.state t.queue in
      both_parts device old t.next new (start_tried o t.answer) (starting_tried t.next ts) (start_events o t.answer) (starting_events t.next ts)
      (start_part old o t.answer t.next start) (starts_part t.next ts new starts)

  -- The reads of documents are a part too.
  pub reads_part : (old : OpenSpool D) (ts : List Launching) (new : OpenSpool D) → IsLawful device → AreReads device old ts new → IsPart device old [] [] new
  reads_part old ts new lawful reads =
      let same : device.bytes new.disk ≡ device.bytes old.disk = (reads_still device lawful old ts new reads).bytes in
      record {
        table = reads_state device old ts new reads;
        acknowledged = λ lives. refl;
        in_hand = inl refl;
        none = λ died. (refl, refl);
        dead = reads_over device old ts new reads;
        counted = reads_counted device old ts new reads;
        told = (λ k. subst IsSome same k, λ k. subst IsSome (sym same) k);
      }

  report_part : (old : RunState D) (j : ℕ) (r : Report) (new : RunState D) → IsReport device old j r new → IsPart device old.spool (report_tried (Stage (end_in old.slots j)) r) (report_events (Stage (end_in old.slots j)) r) new.spool
  report_part old j reports.Silent new none = absurd none
  report_part old j reports.NoMemory new same = still device old.spool new.spool (ap (λ (c : RunState D). c.spool) same)
  report_part old j (reports.Answered a) new report = one_part device old.spool (Stage (end_in old.slots j)) a new.spool report.0

  pub end_part : (old : RunState D) (e : Ending D) → IsEnding device old e → IsPart device old.spool (report_tried (Stage (end_in e.kept.slots e.job)) e.report) (report_events (Stage (end_in e.kept.slots e.job)) e.report) e.next.spool
  end_part old e ends = by_silence (is_silent (finite.get old.slots e.job)) ends
    where
      event : Event
      event = Stage (end_in e.kept.slots e.job)

      by_silence : (b : Bool) → IsEndingOf device old b e → IsPart device old.spool (report_tried event e.report) (report_events event e.report) e.next.spool
      by_silence true (silent, kept, same) =
          subst (λ r. IsPart device old.spool (report_tried event r) (report_events event r) e.next.spool) (sym silent)
          (still device old.spool e.next.spool (ap (λ (c : RunState D). c.spool) same))
      by_silence false (finishes, same, report) =
          subst (λ (x : OpenSpool D). IsPart device x (report_tried event e.report) (report_events event e.report) e.next.spool) same
          (report_part e.kept e.job e.report e.next report)

  pub ends_part : (old : RunState D) (es : List (Ending D)) (new : RunState D) → AreEndings device old es new → IsPart device old.spool (ending_tried es) (ending_events es) new.spool
  ends_part old [] new same = still device old.spool new.spool (ap (λ (c : RunState D). c.spool) same)
  ends_part old (e ∷ es) new ends =
      let event = Stage (end_in e.kept.slots e.job) in
      both_parts device old.spool e.next.spool new.spool (report_tried event e.report) (ending_tried es) (report_events event e.report) (ending_events es)
      (end_part old e ends.0) (ends_part e.next es new ends.1)
