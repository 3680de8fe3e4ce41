-- Rounds in order.
use Rattle.std.proofs.Math.Seq.{take-append-add}
use Rattle.std.proofs.lemmas.List.{take-append-le}
use Rattle.std.proofs.Common.{◌≡◌, ℕ, ◌≤◌, ◌+◌, List, [], ◌∷◌, ◌++◌, length, length-append, take, refl, ap, sym, ◌∙◌, subst, inl, inr, ⊎_elim, arith, true, false, Bool, Option, Some, Result}
use Rattle.std.specs.Prelude.{◌↔◌, IfSome, IsSome}
use Rattle.std.specs.List.{flat_map}
use Rattle.spool_types.specs.declared.event.Event.{Event}
use Rattle.spool_types.specs.State.{State}
use Rattle.spool_core.specs.Image.{HasWhole}
use Rattle.spool_core.specs.OpenSpools.{OpenSpool}
use Rattle.job_table.specs.EventFold.{after_all}
use Rattle.spool_disk.specs.Disk.{DiskView, LeavesOnly}
use Rattle.spool_disk.proofs.Moments.{runs_on, weaker_run}
use Rattle.command_lines.specs.declared.command.Command.{Command}
use Rattle.filter_args.specs.declared.place.Place.{Place}
use Rattle.child_pipeline.specs.StageSlots.{Slots}
use Rattle.child_pipeline.specs.ChildTraces.{ChildTrace}
use Rattle.print_rounds.specs.declared.start_room.StartRoom.{StartRoom}
use Rattle.print_rounds.specs.RunStates.{RunState, run_state}
use Rattle.print_rounds.proofs.PrefixLaws.{after_both, none_of, some_first, some_later}
use Rattle.print_rounds.specs.Finished.{EachFinishedOnce, HasNoneRunning}
use Rattle.print_rounds.specs.RoundTicks.{IsTickAsked, IsTickBy, count_running}
use Rattle.print_rounds.specs.declared.start_room.TickLimits.{TickLimits}
use Rattle.print_rounds.specs.Rounds.{HasSomeOf, HasSomeWhole, LeavesDocuments, IsRoundBy, tried_in}
use Rattle.print_rounds.specs.declared.outcome.Round.{Round}
use Rattle.print_rounds.specs.declared.outcome.RoundFault.{RoundFault}
use Rattle.spool_engine.specs.Script.{meaning, runs, withheld_line, withholds}
use Rattle.spool_engine.specs.EventSteps.{Setting, EventStep, IsEventStep, IsKept}
use Rattle.spool_engine.specs.EventAnswers.{Takes}
use Rattle.spool_engine.specs.EngineRounds.{Ran, IsRoundWith, IsRan, IsSettled, AreRan, AreRun, AreRunBy}
use Rattle.spool_engine.specs.EngineTicks.{IsTickWith, IsTicked}
use Rattle.spool_engine.specs.EngineRuns.{CommandStep, TakesStep, IsHeld, HasSomeIn, answered, ran, withheld}
use Rattle.spool_engine.proofs.EventLaws.{OnlyNow, crash_in, unmoved, unmoved_whole}

-- ## Events that send nothing

pub whole_none : (s : State) (documents : ℕ → List ℕ) (es : List Event) (c : List ℕ) → HasWhole s documents c → HasSomeWhole s documents es c
whole_none s documents es c has = (0, omega arith, has)

-- Some of the first events count as some of all events.
whole_first : (s : State) (documents : ℕ → List ℕ) (es fs : List Event) (c : List ℕ) → HasSomeWhole s documents es c → HasSomeWhole s documents (es ++ fs) c
whole_first s documents es fs c (k, high, has) = (k, omega (arith, high, length-append es fs), subst (λ l. HasWhole (after_all s l) documents c) (sym (take-append-le k es fs high)) has)

-- All of the first events, followed by some more.
whole_later : (s t : State) (documents : ℕ → List ℕ) (es fs : List Event) (c : List ℕ) → t ≡ after_all s es → HasSomeWhole t documents fs c → HasSomeWhole s documents (es ++ fs) c
whole_later s t documents es fs c is (k, high, has) = (
  length es + k,
  omega (arith, high, length-append es fs),
  subst (λ u. HasWhole u documents c) (ap (λ u. after_all u (take k fs)) is ∙ sym (after_both s es (take k fs)) ∙ ap (after_all s) (sym (take-append-add es fs k))) has,
)

-- ## A round

-- After a fault of the device nothing is done.
pub dead_ran : {D : Type 0} (v : Setting D) (s : RunState D) (r : Ran D) → s.spool.dead ≡ true → IsRan v s r → r.next.spool ≡ s.spool
dead_ran {D} v s r is h =
    let died : r.settled.spool.dead ≡ true = ap (λ (x : OpenSpool D). x.dead) h.settles.spool ∙ is in
    ap (λ x. x.spool) (subst (λ b. IsRoundWith v.device v.place r.settled b r) died h.round).0.1 ∙ h.settles.spool

pub dead_rans : {D : Type 0} (v : Setting D) (s : RunState D) (rs : List (Ran D)) (new : RunState D) → s.spool.dead ≡ true → AreRan v s rs new → new.spool ≡ s.spool
dead_rans v s [] new is h = ap (λ x. x.spool) h
dead_rans v s (r ∷ rs) new is h =
    let same : r.next.spool ≡ s.spool = dead_ran v s r is h.0 in
    dead_rans v r.next rs new (ap (λ x. x.dead) same ∙ is) h.1 ∙ same

-- While the device works, the table is that after all the events that were tried.
tried_from : {D : Type 0} (v : Setting D) (s : RunState D) (r : Ran D) → r.next.spool.dead ≡ false → IsRoundWith v.device v.place s false r → r.next.spool.state ≡ after_all s.spool.state r.tried
tried_from v s r lives h = ⊎_elim
    (λ unbegun. ap (λ x. x.spool.state) unbegun.0.1 ∙ ap (after_all s.spool.state) (sym unbegun.1))
    (λ made. made.0.table ∙ ap (after_all s.spool.state) (sym (made.0.all_acknowledged lives) ∙ sym made.1))
    h

tried_table : {D : Type 0} (v : Setting D) (s : RunState D) (r : Ran D) → r.next.spool.dead ≡ false → s.spool.dead ≡ false → IsRan v s r → r.next.spool.state ≡ after_all s.spool.state r.tried
tried_table {D} v s r lives alive h =
    let works : r.settled.spool.dead ≡ false = ap (λ (x : OpenSpool D). x.dead) h.settles.spool ∙ alive in
    tried_from v r.settled r lives (subst (λ b. IsRoundWith v.device v.place r.settled b r) works h.round) ∙ ap (λ (x : OpenSpool D). after_all x.state r.tried) h.settles.spool

-- A round that begins without running children, by its result, with the images that a crash in it leaves.
pub ran_of : {D : Type 0} (v : Setting D) (s : OpenSpool D) (slots slots' : Slots) (told told' : Option ChildTrace) (new : RunState D) (result : Result Round RoundFault) (b : Bool) → s.dead ≡ b → IsSettled (run_state s slots told) (run_state s slots' told') → OnlyNow v.device → IsKept v.device s → IsKept v.device new.spool
    → v.device.failures s.disk ≤ v.device.failures new.spool.disk → (IsSome (v.device.bytes new.spool.disk) ↔ IsSome (v.device.bytes s.disk))
    → ((t : ChildTrace) → told' ≡ Some t → t.running ≡ [] → (js : List ℕ) × EachFinishedOnce t new.told js) → HasNoneRunning new.slots
    → IsRoundBy v.device v.place (run_state s slots' told') b new result → (settled : RunState D) × (tried : List Event) × (documents : ℕ → List ℕ) × IsRan v (run_state s slots told) (record { settled = settled; next = new; result = result; tried = tried; documents = documents })
ran_of {D} v s slots slots' told told' new result true is settles now kept later counted tells finished rest h = (
  run_state s slots' told',
  [],
  λ j. [],
  record {
    settles = settles;
    round = subst (λ b. IsRoundWith v.device v.place (run_state s slots' told') b (record { settled = run_state s slots' told'; next = new; result = result; tried = []; documents = λ j. [] })) (sym is) (h, refl);
    finished = finished;
    rest = rest;
    counted = counted;
    told = tells;
    crash = λ alive tells. absurd cc;
    kept = later;
    whole = λ alive tells documents has. absurd cc;
    lasting = λ lives tells documents has. subst (λ (x : RunState D). LeavesDocuments v.device documents x.spool) (sym h.1) has;
  },
)
ran_of {D} v s slots slots' told told' new result false is settles now kept later counted tells finished rest h = ⊎_elim
    (λ unbegun. (
      run_state s slots' told',
      [],
      λ j. [],
      record {
        settles = settles;
        round = subst (λ b. IsRoundWith v.device v.place (run_state s slots' told') b (record { settled = run_state s slots' told'; next = new; result = result; tried = []; documents = λ j. [] })) (sym is) (inl (unbegun, refl));
        finished = finished;
        rest = rest;
        counted = counted;
        told = tells;
        crash = λ alive tells. subst (λ (x : RunState D). LeavesOnly v.device s.disk x.spool.disk (HasSomeOf s.state [])) (sym unbegun.1) (unmoved v.device s (HasSomeOf s.state []) now kept (none_of s.state []) alive tells);
        kept = later;
        whole = λ alive tells documents has. subst (λ (x : RunState D). LeavesOnly v.device s.disk x.spool.disk (HasSomeWhole s.state documents [])) (sym unbegun.1)
            (unmoved_whole v.device s documents (HasSomeWhole s.state documents []) now kept (whole_none s.state documents []) alive tells has);
        lasting = λ lives tells documents has. subst (λ (x : RunState D). LeavesDocuments v.device documents x.spool) (sym unbegun.1) has;
      },
    ))
    (λ made. (
      run_state s slots' told',
      tried_in (run_state s slots' told') made.steps,
      made.read.0,
      record {
        settles = settles;
        round = subst (λ b. IsRoundWith v.device v.place (run_state s slots' told') b (record { settled = run_state s slots' told'; next = new; result = result; tried = tried_in (run_state s slots' told') made.steps; documents = made.read.0 })) (sym is) (inr (made, refl, made.read.1));
        finished = finished;
        rest = rest;
        counted = counted;
        told = tells;
        crash = made.any_moment;
        kept = later;
        whole = made.any_whole;
        lasting = made.lasting;
      },
    ))
    h

-- A tick, whatever room the children had for starts.
pub tick_by : {D : Type 0} (asked : Option StartRoom → Type 0) (device : DiskView D) (place : Place) (limits : Option TickLimits) (old new : RunState D) (result : Result Round RoundFault) (b : Bool) → IsTickAsked asked device place limits old b new result → IsTickBy device place limits old b new result
tick_by asked device place limits old new result true h = h
tick_by asked device place limits old new result false (inl unbegun) = inl unbegun
tick_by asked device place limits old new result false (inr made) = inr made.0

-- A tick, by its result.
pub ticked_of : {D : Type 0} (v : Setting D) (limits : Option TickLimits) (old new : RunState D) (result : Result Round RoundFault) (b : Bool) → old.spool.dead ≡ b → OnlyNow v.device → IsKept v.device old.spool → IsKept v.device new.spool
    → v.device.failures old.spool.disk ≤ v.device.failures new.spool.disk → (IsSome (v.device.bytes new.spool.disk) ↔ IsSome (v.device.bytes old.spool.disk))
    → IfSome limits (λ l. count_running old.slots ≤ l.most → count_running new.slots ≤ l.most) → IsTickBy v.device v.place limits old b new result → (tried : List Event) × IsTicked v old (record { limits = limits; next = new; result = result; tried = tried })
ticked_of {D} v limits old new result true is now kept later counted told most h = (
  [],
  record {
    tick = subst (λ b. IsTickWith v.device v.place old b (record { limits = limits; next = new; result = result; tried = [] })) (sym is) (h, refl);
    counted = counted;
    most = most;
    told = told;
    crash = λ alive tells. absurd cc;
    kept = later;
    whole = λ alive tells documents has. absurd cc;
    lasting = λ lives tells documents has. subst (λ (x : RunState D). LeavesDocuments v.device documents x.spool) (sym h.1) has;
  },
)
ticked_of {D} v limits old new result false is now kept later counted told most h = ⊎_elim
    (λ unbegun. (
      [],
      record {
        tick = subst (λ b. IsTickWith v.device v.place old b (record { limits = limits; next = new; result = result; tried = [] })) (sym is) (inl (unbegun, refl));
        counted = counted;
        most = most;
        told = told;
        crash = λ alive tells. subst (λ (x : RunState D). LeavesOnly v.device old.spool.disk x.spool.disk (HasSomeOf old.spool.state [])) (sym unbegun.1) (unmoved v.device old.spool (HasSomeOf old.spool.state []) now kept (none_of old.spool.state []) alive tells);
        kept = later;
        whole = λ alive tells documents has. subst (λ (x : RunState D). LeavesOnly v.device old.spool.disk x.spool.disk (HasSomeWhole old.spool.state documents [])) (sym unbegun.1)
            (unmoved_whole v.device old.spool documents (HasSomeWhole old.spool.state documents []) now kept (whole_none old.spool.state documents []) alive tells has);
        lasting = λ lives tells documents has. subst (λ (x : RunState D). LeavesDocuments v.device documents x.spool) (sym unbegun.1) has;
      },
    ))
    (λ made. (
      tried_in old made.steps.parts,
      record {
        tick = subst (λ b. IsTickWith v.device v.place old b (record { limits = limits; next = new; result = result; tried = tried_in old made.steps.parts })) (sym is) (inr (made, refl));
        counted = counted;
        most = most;
        told = told;
        crash = made.any_moment;
        kept = later;
        whole = made.any_whole;
        lasting = made.lasting;
      },
    ))
    h

-- ## Several rounds

abbrev all_tried : {D : Type 0} → List (Ran D) → List Event
all_tried rs = flat_map (λ r. r.tried) rs

rounds_counted : {D : Type 0} (v : Setting D) (s : RunState D) (rs : List (Ran D)) (new : RunState D) → AreRan v s rs new → v.device.failures s.spool.disk ≤ v.device.failures new.spool.disk
rounds_counted v s [] new h = subst (λ x. v.device.failures s.spool.disk ≤ v.device.failures x.spool.disk) (sym h) (omega arith)
rounds_counted v s (r ∷ rs) new h = omega (arith, h.0.counted, rounds_counted v r.next rs new h.1)

rounds_told : {D : Type 0} (v : Setting D) (s : RunState D) (rs : List (Ran D)) (new : RunState D) → AreRan v s rs new → IsSome (v.device.bytes new.spool.disk) ↔ IsSome (v.device.bytes s.spool.disk)
rounds_told v s [] new h = subst (λ x. IsSome (v.device.bytes x.spool.disk) ↔ IsSome (v.device.bytes s.spool.disk)) (sym h) (λ k. k, λ k. k)
rounds_told v s (r ∷ rs) new h =
    let more = rounds_told v r.next rs new h.1 in
    (λ k. h.0.told.0 (more.0 k), λ k. more.1 (h.0.told.1 k))

rounds_kept : {D : Type 0} (v : Setting D) (s : RunState D) (rs : List (Ran D)) (new : RunState D) → IsKept v.device s.spool → AreRan v s rs new → IsKept v.device new.spool
rounds_kept v s [] new kept h = subst (λ x. IsKept v.device x.spool) (sym h) kept
rounds_kept v s (r ∷ rs) new kept h = rounds_kept v r.next rs new h.0.kept h.1

-- By whether the device works after the first round.
lasting_by : {D : Type 0} (v : Setting D) (s : RunState D) (r : Ran D) (rs : List (Ran D)) (new : RunState D) (documents : ℕ → List ℕ) (b : Bool) → r.next.spool.dead ≡ b → IsRan v s r → AreRan v r.next rs new → new.spool.dead ≡ false → IsSome (v.device.bytes s.spool.disk)
    → LeavesDocuments v.device documents s.spool → (LeavesDocuments v.device documents r.next.spool → LeavesDocuments v.device documents new.spool) → LeavesDocuments v.device documents new.spool
lasting_by v s r rs new documents true is h more lives tells has rest = absurd (let died = ap (λ x. x.dead) (dead_rans v r.next rs new is more) ∙ is in cc)
lasting_by v s r rs new documents false is h more lives tells has rest = rest (h.lasting is tells documents has)

pub rounds_lasting : {D : Type 0} (v : Setting D) (s : RunState D) (rs : List (Ran D)) (new : RunState D) (documents : ℕ → List ℕ) → AreRan v s rs new → new.spool.dead ≡ false → IsSome (v.device.bytes s.spool.disk) → LeavesDocuments v.device documents s.spool → LeavesDocuments v.device documents new.spool
rounds_lasting v s [] new documents h lives tells has = subst (λ x. LeavesDocuments v.device documents x.spool) (sym h) has
rounds_lasting v s (r ∷ rs) new documents h lives tells has =
    lasting_by v s r rs new documents r.next.spool.dead refl h.0 h.1 lives tells has (λ left. rounds_lasting v r.next rs new documents h.1 lives (h.0.told.1 tells) left)

module _ {D : Type 0} (v : Setting D) (now : OnlyNow v.device) where
  -- By whether the device works after the first round.
  crash_by : (s : RunState D) (r : Ran D) (rs : List (Ran D)) (new : RunState D) (b : Bool) → r.next.spool.dead ≡ b → IsRan v s r → AreRan v r.next rs new → s.spool.dead ≡ false → IsSome (v.device.bytes s.spool.disk)
      → (r.next.spool.dead ≡ false → LeavesOnly v.device r.next.spool.disk new.spool.disk (HasSomeOf r.next.spool.state (all_tried rs)))
      → LeavesOnly v.device s.spool.disk new.spool.disk (HasSomeOf s.spool.state (r.tried ++ all_tried rs))
  crash_by s r rs new true is h more alive tells rest =
      subst (λ x. LeavesOnly v.device s.spool.disk x.disk (HasSomeOf s.spool.state (r.tried ++ all_tried rs))) (sym (dead_rans v r.next rs new is more))
      (weaker_run v.device s.spool.disk r.next.spool.disk (HasSomeOf s.spool.state (r.tried ++ all_tried rs)) (HasSomeOf s.spool.state r.tried) (h.crash alive tells) (some_first s.spool.state r.tried (all_tried rs)))
  crash_by s r rs new false is h more alive tells rest =
      runs_on v.device s.spool.disk r.next.spool.disk new.spool.disk (HasSomeOf s.spool.state (r.tried ++ all_tried rs)) (HasSomeOf r.next.spool.state (all_tried rs))
      (weaker_run v.device s.spool.disk r.next.spool.disk (HasSomeOf s.spool.state (r.tried ++ all_tried rs)) (HasSomeOf s.spool.state r.tried) (h.crash alive tells) (some_first s.spool.state r.tried (all_tried rs)))
      (rest is)
      (λ c. some_later s.spool.state r.next.spool.state r.tried (all_tried rs) c (tried_table v s r is alive h))

  rounds_crash : (s : RunState D) (rs : List (Ran D)) (new : RunState D) → IsKept v.device s.spool → AreRan v s rs new → s.spool.dead ≡ false → IsSome (v.device.bytes s.spool.disk) → LeavesOnly v.device s.spool.disk new.spool.disk (HasSomeOf s.spool.state (all_tried rs))
  rounds_crash s [] new kept h alive tells =
      subst (λ x. LeavesOnly v.device s.spool.disk x.spool.disk (HasSomeOf s.spool.state [])) (sym h)
      (unmoved v.device s.spool (HasSomeOf s.spool.state []) now kept (none_of s.spool.state []) alive tells)
  rounds_crash s (r ∷ rs) new kept h alive tells = crash_by s r rs new r.next.spool.dead refl h.0 h.1 alive tells (λ lives. rounds_crash r.next rs new h.0.kept h.1 lives (h.0.told.1 tells))

  -- The same for the documents.
  whole_by : (s : RunState D) (r : Ran D) (rs : List (Ran D)) (new : RunState D) (documents : ℕ → List ℕ) (b : Bool) → r.next.spool.dead ≡ b → IsRan v s r → AreRan v r.next rs new → s.spool.dead ≡ false → IsSome (v.device.bytes s.spool.disk) → LeavesDocuments v.device documents s.spool
      → (r.next.spool.dead ≡ false → LeavesDocuments v.device documents r.next.spool → LeavesOnly v.device r.next.spool.disk new.spool.disk (HasSomeWhole r.next.spool.state documents (all_tried rs)))
      → LeavesOnly v.device s.spool.disk new.spool.disk (HasSomeWhole s.spool.state documents (r.tried ++ all_tried rs))
  whole_by s r rs new documents true is h more alive tells has rest =
      subst (λ x. LeavesOnly v.device s.spool.disk x.disk (HasSomeWhole s.spool.state documents (r.tried ++ all_tried rs))) (sym (dead_rans v r.next rs new is more))
      (weaker_run v.device s.spool.disk r.next.spool.disk (HasSomeWhole s.spool.state documents (r.tried ++ all_tried rs)) (HasSomeWhole s.spool.state documents r.tried) (h.whole alive tells documents has) (whole_first s.spool.state documents r.tried (all_tried rs)))
  whole_by s r rs new documents false is h more alive tells has rest =
      runs_on v.device s.spool.disk r.next.spool.disk new.spool.disk (HasSomeWhole s.spool.state documents (r.tried ++ all_tried rs)) (HasSomeWhole r.next.spool.state documents (all_tried rs))
      (weaker_run v.device s.spool.disk r.next.spool.disk (HasSomeWhole s.spool.state documents (r.tried ++ all_tried rs)) (HasSomeWhole s.spool.state documents r.tried) (h.whole alive tells documents has) (whole_first s.spool.state documents r.tried (all_tried rs)))
      (rest is (h.lasting is tells documents has))
      (λ c. whole_later s.spool.state r.next.spool.state documents r.tried (all_tried rs) c (tried_table v s r is alive h))

  rounds_whole : (s : RunState D) (rs : List (Ran D)) (new : RunState D) (documents : ℕ → List ℕ) → IsKept v.device s.spool → AreRan v s rs new → s.spool.dead ≡ false → IsSome (v.device.bytes s.spool.disk) → LeavesDocuments v.device documents s.spool → LeavesOnly v.device s.spool.disk new.spool.disk (HasSomeWhole s.spool.state documents (all_tried rs))
  rounds_whole s [] new documents kept h alive tells has =
      subst (λ x. LeavesOnly v.device s.spool.disk x.spool.disk (HasSomeWhole s.spool.state documents [])) (sym h)
      (unmoved_whole v.device s.spool documents (HasSomeWhole s.spool.state documents []) now kept (whole_none s.spool.state documents []) alive tells has)
  rounds_whole s (r ∷ rs) new documents kept h alive tells has = whole_by s r rs new documents r.next.spool.dead refl h.0 h.1 alive tells has (λ lives left. rounds_whole r.next rs new documents h.0.kept h.1 lives (h.0.told.1 tells) left)

  -- The step of a command that is answered with rounds.
  pub rounds_turn : (said : List ℕ) (s new : RunState D) (c : Command) (most : ℕ) (line : List Round → List ℕ) → IsKept v.device s.spool → meaning v.mime s.spool.state [] c ≡ runs most line
      → (rs : List (Ran D)) × (reply : List ℕ) × AreRun v most line s rs new reply × (said ≡ reply) → (t : CommandStep D) × TakesStep v s c t new × (said ≡ t.text)
  rounds_turn said s new c most line kept is (rs, reply, run, told) = (
    record { command = c; document = []; how = ran rs; text = reply; next = new },
    record {
      legal = record {
        how = subst (λ w. AreRunBy v w s rs new reply) (sym is) run;
        read = tt;
        counted = rounds_counted v s rs new run.each;
        told = rounds_told v s rs new run.each;
        crash = λ alive tells. crash_in v.device s.spool.disk new.spool.disk c s.spool.state (all_tried rs) (rounds_crash s rs new kept run.each alive tells);
        whole = λ alive tells documents has.
            let turn : CommandStep D = record { command = c; document = []; how = ran rs; text = reply; next = new } in
            weaker_run v.device s.spool.disk new.spool.disk (HasSomeIn v.mime s documents turn) (HasSomeWhole s.spool.state documents (all_tried rs))
            (rounds_whole s rs new documents kept run.each alive tells has) (λ image some. inl some);
        kept = rounds_kept v s rs new kept run.each;
        lasting = λ lives tells documents has. rounds_lasting v s rs new documents run.each lives tells has;
      };
      command = refl;
      next = refl;
    },
    told,
  )

-- ## A command without rounds, with slots and children that do not change

pub same_turn : {D : Type 0} (t : EventStep D) (c : Command) (s' : OpenSpool D) → t.command ≡ c → t.next ≡ s' → t ≡ record { command = c; document = t.document; outcome = t.outcome; text = t.text; next = s' }
same_turn t c s' e f =
    ap (λ x. record { command = x; document = t.document; outcome = t.outcome; text = t.text; next = t.next }) e
    ∙ ap (λ x. record { command = c; document = t.document; outcome = t.outcome; text = t.text; next = x }) f

-- A purge of a job whose child runs changes nothing.
pub withheld_turn : {D : Type 0} (said : List ℕ) (v : Setting D) (s : RunState D) (c : Command) → OnlyNow v.device → IsKept v.device s.spool → withholds s.slots c ≡ true
    → (said ≡ withheld_line) → (t : CommandStep D) × TakesStep v s c t s × (said ≡ t.text)
withheld_turn {D} said v s c now kept is told = (
  record { command = c; document = []; how = withheld; text = withheld_line; next = s },
  record {
    legal = record {
      how = record { is = is; text = refl; same = refl };
      read = tt;
      counted = omega arith;
      told = (λ h. h, λ h. h);
      crash = λ alive tells. crash_in v.device s.spool.disk s.spool.disk c s.spool.state [] (unmoved v.device s.spool (HasSomeOf s.spool.state []) now kept (none_of s.spool.state []) alive tells);
      whole = λ alive tells documents has.
          let turn : CommandStep D = record { command = c; document = []; how = withheld; text = withheld_line; next = s } in
          unmoved_whole v.device s.spool documents (HasSomeIn v.mime s documents turn) now kept (λ image whole. inl whole) alive tells has;
      kept = kept;
      lasting = λ lives tells documents has. has;
    };
    command = refl;
    next = refl;
  },
  told,
)

pub held_turn : {D : Type 0} (said : List ℕ) (v : Setting D) (s new : RunState D) (c : Command) → IsHeld s new → withholds s.slots c ≡ false
    → (t : EventStep D) × Takes v s.spool c t new.spool × (said ≡ t.text) → (t : CommandStep D) × TakesStep v s c t new × (said ≡ t.text)
held_turn said v s new c held free (t, takes, told) =
    let one = subst (IsEventStep v s.spool) (same_turn t c new.spool takes.command takes.next) takes.legal in (
      record { command = c; document = t.document; how = answered t.outcome; text = t.text; next = new },
      record {
        legal = record { how = (one.outcome, held, free); read = one.read; counted = one.counted; told = one.told; crash = one.crash; whole = one.whole; kept = one.kept; lasting = one.lasting };
        command = refl;
        next = refl;
      },
      told,
    )

-- The same from an equal run state.
pub event_lifted : {D : Type 0} (said : List ℕ) (v : Setting D) (e e' : OpenSpool D) (slots : Slots) (told : Option ChildTrace) (s : RunState D) (c : Command) → run_state e slots told ≡ s → withholds slots c ≡ false
    → (t : EventStep D) × Takes v e c t e' × (said ≡ t.text) → (t : CommandStep D) × TakesStep v s c t (run_state e' slots told) × (said ≡ t.text)
event_lifted said v e e' slots told s c is free h =
    subst (λ y. (t : CommandStep _) × TakesStep v y c t (run_state e' slots told) × (said ≡ t.text)) is
    (held_turn said v (run_state e slots told) (run_state e' slots told) c (record { slots = refl; told = refl }) free h)

-- The same if the spool did not change.
pub said_lifted : {D : Type 0} (said : List ℕ) (v : Setting D) (s : RunState D) (c : Command) → withholds s.slots c ≡ false
    → (t : EventStep D) × Takes v s.spool c t s.spool × (said ≡ t.text) → (t : CommandStep D) × TakesStep v s c t s × (said ≡ t.text)
said_lifted said v s c free h = held_turn said v s s c (record { slots = refl; told = refl }) free h

-- The same from an equal run state, if the spool did not change.
pub listed : {D : Type 0} (said : List ℕ) (v : Setting D) (e : OpenSpool D) (slots : Slots) (told : Option ChildTrace) (s : RunState D) (c : Command) → run_state e slots told ≡ s → withholds slots c ≡ false
    → (t : EventStep D) × Takes v e c t e × (said ≡ t.text) → (t : CommandStep D) × TakesStep v s c t s × (said ≡ t.text)
listed said v e slots told s c is free h =
    subst (λ y. (t : CommandStep _) × TakesStep v y c t y × (said ≡ t.text)) is
    (said_lifted said v (run_state e slots told) c free h)
