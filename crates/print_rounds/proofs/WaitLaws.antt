-- A pass that waits for each child, over slots without a running child, is a round.
use Rattle.std.proofs.Common.{◌≡◌, ◌≤◌, ◌↔◌, inl, inr, ℕ, Bool, true, false, cond, not, ◌&&◌, ◌||◌, List, [], ◌∷◌, map, filter, Option, Some, None, Result, IsSome, refl, sym, ap, subst, ◌∙◌, arith}
use Rattle.std.specs.List.{list_any}
use Rattle.std.specs.Option.{option_or}
use Rattle.std.specs.FinMap as finite
use Rattle.spool_disk.specs.Disk.{DiskView, IsLawful}
use Rattle.spool_types.specs.State.{State, job_at}
use Rattle.job_table.specs.Legal.{IsLegal}
use Rattle.spool_core.specs.OpenSpools.{OpenSpool}
use Rattle.filter_args.specs.declared.place.Place.{Place}
use Rattle.child_pipeline.specs.StageSlots.{Slots}
use Rattle.child_pipeline.specs.ChildTraces.{ChildTrace}
use Rattle.print_rounds.specs.Choice.{busy_jobs}
use Rattle.print_rounds.specs.Counts.{counts_of, result_of, starting_fault, starting_events, stages_fault}
use Rattle.print_rounds.specs.RunStates.{RunState, run_state, Launching, AreLaunchings, AreReads, Ending, AreEndings, IsRunOfStages}
use Rattle.print_rounds.specs.Faultless.{AreExactStarts}
use Rattle.print_rounds.specs.Finished.{AreDistinct, EachFinishedOnce, HasNoneRunning}
use Rattle.print_rounds.specs.StageChecks.{Look, AreLooks, Dropping, AreDroppings, has_child, runs, idle_slots, is_stray, strays, is_of_queue, is_blocked, free_queues, tended_jobs, idle_among, ripe_in}
use Rattle.print_rounds.specs.Passes.{IsPassed, IsPassBy, jobs_tended, jobs_left}
use Rattle.print_rounds.specs.Rounds.{RoundSteps, IsRoundBy}
use Rattle.print_rounds.specs.RoundScript.{current_slots, is_current, plays, play_start, play_from}
use Rattle.print_rounds.specs.declared.outcome.Round.{Round}
use Rattle.print_rounds.specs.declared.outcome.RoundFault.{RoundFault}
use Rattle.print_rounds.proofs.BusyLaws.{all_distinct, all_rest}
use Rattle.print_rounds.proofs.CrashLaws.{IsKept}
use Rattle.print_rounds.proofs.FreeLaws.{answered, current_rests}
use Rattle.print_rounds.proofs.HoldLaws.{Laws}
use Rattle.print_rounds.proofs.LaunchLaws.{HasNumbers}
use Rattle.print_rounds.proofs.PartLaws.{starts_part}
use Rattle.print_rounds.proofs.RoundLaws.{none_asked, or_none, first_answer, later_answer, run_part, whole_round, failed_round}
use Rattle.print_rounds.proofs.RowLaws.{legal_rows}
use Rattle.print_rounds.proofs.StageLaws.{all_exact, each_once, none_run}
use Rattle.print_rounds.proofs.StartLaws.{starts_played}

-- ## Slots without a running child

or_false : (a b : Bool) → b ≡ false → (a || b) ≡ a
or_false true b is = refl
or_false false b is = is

module _ {X : Type 0} where
  all_pass : (p : X → Bool) → ((x : X) → p x ≡ true) → (xs : List X) → filter p xs ≡ xs
  all_pass p pass [] = refl
  all_pass p pass (x ∷ xs) = ap (λ b. cond b (x ∷ filter p xs) (filter p xs)) (pass x) ∙ ap (λ ys. x ∷ ys) (all_pass p pass xs)

  none_passes : (p : X → Bool) → ((x : X) → p x ≡ false) → (xs : List X) → filter p xs ≡ []
  none_passes p out [] = refl
  none_passes p out (x ∷ xs) = ap (λ b. cond b (x ∷ filter p xs) (filter p xs)) (out x) ∙ none_passes p out xs

  none_any : (p : X → Bool) → ((x : X) → p x ≡ false) → (xs : List X) → list_any p xs ≡ false
  none_any p out [] = refl
  none_any p out (x ∷ xs) = ap (λ b. b || list_any p xs) (out x) ∙ none_any p out xs

module _ (s : State) (slots : Slots) (rests : HasNoneRunning slots) where
  none_runs : (j : ℕ) → runs slots j ≡ false
  none_runs j = sym (answered false (finite.get slots j) (λ is. absurd (cc)) (λ off. rests j))

  none_strays : (j : ℕ) → is_stray s slots j ≡ false
  none_strays j = ap (λ b. b && not (is_current (job_at s j) (finite.get slots j))) (none_runs j)

  -- The retained slots are the current ones.
  pub idle_current : idle_slots s slots ≡ current_slots s slots
  idle_current = λ i. finite.retain_keys slots (λ j. or_false (is_current (job_at s j) (finite.get slots j)) (has_child (finite.get slots j)) (none_runs j) i)

  -- No queue is blocked.
  pub all_free : free_queues s slots ≡ finite.keys s.queues
  all_free = all_pass (λ name. not (is_blocked s slots name)) (λ name. ap not (none_any (λ j. runs slots j && is_of_queue name (job_at s j)) (λ j. ap (λ b. b && is_of_queue name (job_at s j)) (none_runs j)) (finite.keys slots))) (finite.keys s.queues)

  -- Each processing job is tended.
  pub all_tended : (names : List (List ℕ)) → tended_jobs s slots names ≡ busy_jobs s names
  all_tended names = all_pass (λ j. not (is_stray s slots j)) (λ j. ap not (none_strays j)) (busy_jobs s names)

  pub all_idle : (js : List ℕ) → idle_among slots js ≡ js
  all_idle js = all_pass (λ j. not (runs slots j)) (λ j. ap not (none_runs j)) js

  pub no_strays : strays s slots ≡ []
  no_strays = none_passes (is_stray s slots) none_strays (finite.keys slots)

-- ## Steps

-- If each child is waited for, each check reports an end and changes nothing.
waited_looks : (slots : Slots) (told : Option ChildTrace) (ls : List Look) (told' : Option ChildTrace) → AreLooks true slots told ls told' → (told' ≡ told) × (ripe_in ls ≡ map (λ l. l.job) ls)
waited_looks slots told [] told' same = (same, refl)
waited_looks slots told (l ∷ ls) told' (look, looks) =
    let (same, ripe) = waited_looks slots l.told ls told' looks in
    (same ∙ look.1, ap (λ b. cond b (l.job ∷ ripe_in ls) (ripe_in ls)) look.0 ∙ ap (λ js. l.job ∷ js) ripe)

none_dropped : (waits : Bool) (slots : Slots) (told : Option ChildTrace) (ds : List Dropping) (new : Slots) (told' : Option ChildTrace) → AreDroppings waits slots told ds new told' → map (λ d. d.look.job) ds ≡ [] → (new ≡ slots) × (told' ≡ told)
none_dropped waits slots told [] new told' same none = same
none_dropped waits slots told (d ∷ ds) new told' are none = absurd (cc)

none_launched : (place : Place) (s : State) (slots : Slots) (told : Option ChildTrace) (ls : List Launching) (new : Slots) (told' : Option ChildTrace) → AreLaunchings place s slots told ls new told' → map (λ l. l.job) ls ≡ [] → (ls ≡ []) × (new ≡ slots) × (told' ≡ told)
none_launched place s slots told [] new told' same none = (refl, same.0, same.1)
none_launched place s slots told (l ∷ ls) new told' are none = absurd (cc)

module _ {D : Type 0} (device : DiskView D) where
  none_read : (old : OpenSpool D) (ls : List Launching) (new : OpenSpool D) → AreReads device old ls new → ls ≡ [] → new ≡ old
  none_read old [] new same none = same
  none_read old (l ∷ ls) new are none = absurd (cc)

  none_ended : (old : RunState D) (es : List (Ending D)) (new : RunState D) → AreEndings device old es new → map (λ e. e.job) es ≡ [] → (es ≡ []) × (new ≡ old)
  none_ended old [] new same none = (refl, same)
  none_ended old (e ∷ es) new are none = absurd (cc)

same_run_state : {D : Type 0} (a b : RunState D) → a.spool ≡ b.spool → a.slots ≡ b.slots → a.told ≡ b.told → a ≡ b
same_run_state a b spool slots told = λ i. record { spool = spool i; slots = slots i; told = told i }

-- ## The round

-- The result of a round, whatever the answers.
pub record LeavesNone {D : Type 0} (device : DiskView D) (old new : RunState D) : Type 0 where
  pub later : device.failures old.spool.disk ≤ device.failures new.spool.disk
  pub told : IsSome (device.bytes new.spool.disk) ↔ IsSome (device.bytes old.spool.disk)
  pub finished : (t : ChildTrace) → old.told ≡ Some t → t.running ≡ [] → (js : List ℕ) × EachFinishedOnce t new.told js
  pub rest : HasNoneRunning new.slots

module _ {D : Type 0} (device : DiskView D) (lawful : IsLawful device) (place : Place) (old : RunState D) (kept : IsKept device old.spool) (laws : Laws) (legal : IsLegal old.spool.state) (rests : HasNoneRunning old.slots) (new : RunState D) (result : Result Round RoundFault) where
  abbrev Leaves : Type 0
  Leaves = IsRoundBy device place old old.spool.dead new result × LeavesNone device old new

  nothing_left : new ≡ old → LeavesNone device old new
  nothing_left same = subst (LeavesNone device old) (sym same) (record {
    later = omega arith;
    told = (λ is. is, λ is. is);
    finished = λ t tells none. ([], none_asked t old.slots old.told tells none);
    rest = rests;
  })

  module _ (alive : old.spool.dead ≡ false) (passed : IsPassed device place true None old new result) where
    abbrev parts : RoundSteps D
    parts = passed.steps.parts

    abbrev idle : Slots
    idle = idle_slots old.spool.state old.slots

    idle_is : idle ≡ current_slots old.spool.state old.slots
    idle_is = idle_current old.spool.state old.slots rests

    idle_rests : HasNoneRunning idle
    idle_rests = subst HasNoneRunning (sym idle_is) (current_rests old.spool.state old.slots rests)

    queues : map (λ t. t.queue) parts.startings ≡ finite.keys old.spool.state.queues
    queues = passed.made.queues.all tt ∙ all_free old.spool.state idle idle_rests

    launched : (b : Bool) → parts.mid.dead ≡ b → map (λ l. l.job) parts.launchings ≡ jobs_tended parts.mid b idle
    launched b is =
        passed.made.launched
        ∙ all_idle old.spool.state idle idle_rests (jobs_tended parts.mid parts.mid.dead idle)
        ∙ ap (λ c. jobs_tended parts.mid c idle) is

    looked : (passed.steps.looked ≡ parts.told) × (ripe_in passed.steps.looks ≡ map (λ l. l.job) passed.steps.looks)
    looked = waited_looks parts.slots parts.told passed.steps.looks passed.steps.looked passed.made.looks

    ended : (b : Bool) → parts.mid.dead ≡ b → map (λ e. e.job) parts.endings ≡ jobs_tended parts.mid b idle
    ended b is = passed.made.told ∙ looked.1 ∙ passed.made.seen ∙ ap (λ c. jobs_tended parts.mid c idle) is

    -- After the last start of a stage.
    abbrev between : RunState D
    between = run_state parts.read parts.slots parts.told

    ends : AreEndings device between parts.endings passed.steps.ended
    ends = subst (λ o. AreEndings device (run_state parts.read parts.slots o) parts.endings passed.steps.ended) looked.0 passed.made.ends

    new_is : (b : Bool) → parts.mid.dead ≡ b → jobs_left b passed.steps.ended ≡ [] → new ≡ passed.steps.ended
    new_is b is none =
        let (slots, told) = none_dropped true passed.steps.ended.slots passed.steps.ended.told passed.steps.droppings new.slots new.told passed.made.drops (passed.made.left ∙ ap (λ c. jobs_left c passed.steps.ended) is ∙ none) in
        same_run_state new passed.steps.ended passed.made.spool slots told

    -- The device failed at a start.
    failed_leaves : parts.mid.dead ≡ true → Leaves
    failed_leaves dead =
        let (no_launch, slots, told) = none_launched place parts.mid.state idle old.told parts.launchings parts.slots parts.told passed.made.launches (launched true dead) in
        let read = none_read device parts.mid parts.launchings parts.read passed.made.reads no_launch in
        let (no_end, same) = none_ended device between parts.endings passed.steps.ended ends (ended true dead) in
        let is : new ≡ run_state parts.mid idle old.told = new_is true dead refl ∙ same ∙ same_run_state between (run_state parts.mid idle old.told) read slots told in
        let first = starting_fault parts.startings in
        let answer : result ≡ result_of (record { started = 0; finished = 0 }) first =
        passed.answer
        ∙ ap (λ ls. result_of (counts_of ls parts.endings) (option_or first (stages_fault ls parts.endings))) no_launch
        ∙ ap (λ es. result_of (counts_of [] es) (option_or first (stages_fault [] es))) no_end
        ∙ ap (result_of (record { started = 0; finished = 0 })) (or_none first) in
        let starts = starts_part device old.spool parts.startings parts.mid passed.made.starts in (
          subst (λ c. IsRoundBy device place old old.spool.dead c result) (sym is) (failed_round device lawful place old kept parts.mid parts.startings passed.made.starts queues laws legal rests alive dead idle idle_is result answer),
          subst (LeavesNone device old) (sym is) (record {
            later = starts.counted;
            told = starts.told;
            finished = λ t tells none. ([], none_asked t idle old.told tells none);
            rest = idle_rests;
          }),
        )

    -- The device still works.
    module _ (lives : parts.mid.dead ≡ false) where
      abbrev jobs : List ℕ
      jobs = busy_jobs parts.mid.state (finite.keys parts.mid.state.queues)

      abbrev mid : RunState D
      mid = run_state parts.mid idle old.told

      mid_legal : IsLegal parts.mid.state
      mid_legal = subst IsLegal (sym (starts_part device old.spool parts.startings parts.mid passed.made.starts).table) (laws.legal old.spool.state (starting_events old.spool parts.startings) legal)

      numbers : HasNumbers parts.mid.state
      numbers j r there = (mid_legal.jobs j r there).id

      distinct : AreDistinct jobs
      distinct = all_distinct parts.mid.state (legal_rows parts.mid.state mid_legal)

      tended : jobs_tended parts.mid false idle ≡ jobs
      tended = all_tended parts.mid.state idle idle_rests (finite.keys parts.mid.state.queues)

      abbrev run : (c : RunState D) → AreEndings device between parts.endings c → IsRunOfStages device place mid jobs c
      run c are = record {
        slots = parts.slots;
        told = parts.told;
        launchings = parts.launchings;
        endings = parts.endings;
        starts = passed.made.launches;
        started = launched false lives ∙ tended;
        read = parts.read;
        reads = passed.made.reads;
        ends = are;
        ended = ended false lives ∙ tended;
      }

      ended_rests : HasNoneRunning passed.steps.ended.slots
      ended_rests = none_run device place mid jobs passed.steps.ended numbers (run passed.steps.ended ends) idle_rests

      -- No stray is left.
      same : new ≡ passed.steps.ended
      same = new_is false lives (no_strays passed.steps.ended.spool.state passed.steps.ended.slots ended_rests)

      new_rests : HasNoneRunning new.slots
      new_rests = subst (λ (c : RunState D). HasNoneRunning c.slots) (sym same) ended_rests

      abbrev new_run : IsRunOfStages device place mid jobs new
      new_run = run new (subst (AreEndings device between parts.endings) (sym same) ends)

      exact_starts : AreExactStarts old.spool (finite.keys old.spool.state.queues) parts.mid parts.startings
      exact_starts slots told begun =
          subst (λ qs. plays play_start (play_from old.spool.state slots told) qs ≡ record (play_from parts.mid.state slots told) { events = starting_events old.spool parts.startings }) queues
          (starts_played device old.spool parts.startings parts.mid passed.made.starts (play_from old.spool.state slots told) begun)

      abbrev first : Option RoundFault
      first = starting_fault parts.startings

      abbrev counts : Round
      counts = counts_of parts.launchings parts.endings

      abbrev own : Option RoundFault
      own = stages_fault parts.launchings parts.endings

      answer : (round : Round) (later : Option RoundFault) → result_of counts own ≡ result_of round later → result ≡ result_of round (option_or first later)
      answer round later is = by_fault first refl
        where
          by_fault : (o : Option RoundFault) → first ≡ o → result ≡ result_of round (option_or first later)
          by_fault None none = passed.answer ∙ sym (later_answer counts first own (result_of counts own) none refl) ∙ later_answer round first later (result_of counts own) none is
          by_fault (Some fault) some = passed.answer ∙ sym (first_answer counts first own fault some) ∙ first_answer round first later fault some

      whole_leaves : Leaves
      whole_leaves =
          let part = run_part device lawful place old.spool parts.startings passed.made.starts new_run in (
            whole_round device lawful place old kept parts.mid parts.startings passed.made.starts queues alive lives legal laws rests exact_starts idle idle_is jobs refl distinct new new_rests (result_of counts own)
                (new_run, all_exact device place mid jobs new numbers new_run distinct (all_rest idle idle_rests jobs), refl) result answer,
            record {
              later = part.counted;
              told = part.told;
              finished = λ t tells none. (jobs, each_once device place mid jobs new numbers new_run distinct (all_rest idle idle_rests jobs) t tells none);
              rest = new_rests;
            },
          )

    by_mid : (b : Bool) → parts.mid.dead ≡ b → Leaves
    by_mid true dead = failed_leaves dead
    by_mid false lives = whole_leaves lives

  pub waited_round : IsPassBy device place true None old old.spool.dead new result → Leaves
  waited_round pass = by_dead old.spool.dead refl pass
    where
      by_dead : (b : Bool) → old.spool.dead ≡ b → IsPassBy device place true None old b new result → Leaves
      by_dead true dead (is, same) = (subst (λ b. IsRoundBy device place old b new result) (sym dead) (is, same), nothing_left same)
      by_dead false alive (inl unbegun) = (subst (λ b. IsRoundBy device place old b new result) (sym alive) (inl unbegun), nothing_left unbegun.1)
      by_dead false alive (inr passed) = by_mid alive passed passed.steps.parts.mid.dead refl
