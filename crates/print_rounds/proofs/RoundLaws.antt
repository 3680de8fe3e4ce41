-- A whole round, from its parts.
use Rattle.std.proofs.Common.{◌≡◌, inl, inr, ℕ, Bool, true, false, List, [], ◌∷◌, ◌++◌, map, Option, Some, None, Result, Ok, Err, refl, sym, ap, subst, ◌∙◌, append-nil, add-zero}
use Rattle.std.specs.Option.{option_or}
use Rattle.std.specs.FinMap as finite
use Rattle.spool_disk.specs.Disk.{DiskView, IsLawful}
use Rattle.spool_types.specs.declared.event.Event.{Event}
use Rattle.spool_types.specs.State.{State}
use Rattle.job_table.specs.Attempts.{next_of}
use Rattle.job_table.specs.EventFold.{after_all}
use Rattle.job_table.specs.Legal.{IsLegal}
use Rattle.spool_types.specs.declared.event.Event.TheVariants.{Stage}
use Rattle.spool_core.specs.OpenSpools.{OpenSpool, IsAnswer}
use Rattle.spool_core.specs.declared.spool.apply_fault.ApplyFault.TheVariants as faults
use Rattle.std.proofs.lemmas.Bool.{both_ways}
use Rattle.filter_args.specs.declared.place.Place.{Place}
use Rattle.child_pipeline.specs.StageSlots.{Slots, end_in}
use Rattle.child_pipeline.specs.ChildTraces.{ChildTrace}
use Rattle.print_rounds.specs.Choice.{busy_jobs}
use Rattle.print_rounds.specs.Counts.{answer_fault, launch_fault, report_fault, starting_fault, stages_fault, launching_fault, ending_fault, counts_of, result_of, starting_events, ending_events, starting_tried, ending_tried}
use Rattle.print_rounds.specs.RunStates.{RunState, run_state, Answer, Starting, AreStartings, IsStartingOf, Launching, AreReads, Ending, IsReport, IsEndingOf, AreEndings, AreHanded, IsRunOfStages, is_silent}
use Rattle.print_rounds.specs.Faultless.{IsBegun, AllBegun, AreExact, AreExactStarts}
use Rattle.print_rounds.specs.Finished.{AreDistinct, EachFinishedOnce, HasNoneRunning}
use Rattle.print_rounds.specs.Rounds.{IsRoundBy, IsRoundOf, IsScriptRound, jobs_run}
use Rattle.print_rounds.specs.RoundScript.{Play, play_from, play_stages, current_slots, round_of}
use Rattle.print_rounds.specs.declared.outcome.Report.{Report}
use Rattle.print_rounds.specs.declared.outcome.Report.TheVariants as reports
use Rattle.print_rounds.specs.declared.outcome.Round.{Round}
use Rattle.print_rounds.specs.declared.outcome.RoundFault.{RoundFault}
use Rattle.print_rounds.specs.declared.outcome.RoundFault.TheVariants as ends
use Rattle.print_rounds.proofs.AcceptLaws.{all_begun, all_served, or_first, or_second}
use Rattle.print_rounds.proofs.CurrentLaws.{AllSuit, current_suit, starts_suit, launches_suit}
use Rattle.print_rounds.proofs.CrashLaws.{IsKept, round_part, any_moment, any_whole, lasting, handed}
use Rattle.print_rounds.proofs.HoldLaws.{Laws}
use Rattle.print_rounds.proofs.LaunchLaws.{HasNumbers}
use Rattle.print_rounds.proofs.StartLaws.{starts_keys}
use Rattle.print_rounds.proofs.PartLaws.{IsPart, starts_part}
use Rattle.print_rounds.proofs.ReadLaws.{reads_state, some_handed}
use Rattle.print_rounds.proofs.ToldLaws.{all_told, suit_in}
use Rattle.print_rounds.proofs.StageHistoryLaws.{failed_accepted, failed_turn, live_accepted, live_turn}

-- If no child was started, none must be finished.
pub none_asked : (t : ChildTrace) (slots : Slots) (told : Option ChildTrace) → told ≡ Some t → t.running ≡ [] → EachFinishedOnce t told []
none_asked t slots told tells none = record {
  between = t;
  slots = slots;
  started = record { asked = []; only = refl; orders = []; added = sym (append-nil t.orders); before = tt; finished = refl; running = sym (append-nil t.running) };
  now = t;
  tells = tells;
  finished = record { only = refl; orders = refl; running = none; finished = sym (add-zero t.finished) };
}

pub or_none : (a : Option RoundFault) → option_or a None ≡ a
or_none None = refl
or_none (Some fault) = refl

-- The result of all parts.
pub first_answer : (round : Round) (first later : Option RoundFault) (fault : RoundFault) → first ≡ Some fault → Err fault ≡ result_of round (option_or first later)
first_answer round first later fault some = ap (λ f. result_of round (option_or f later)) (sym some)

pub later_answer : (round : Round) (first later : Option RoundFault) (stages : Result Round RoundFault) → first ≡ None → stages ≡ result_of round later → stages ≡ result_of round (option_or first later)
later_answer round first later stages none is = is ∙ ap (λ f. result_of round (option_or f later)) (sym none)

module _ {D : Type 0} (device : DiskView D) where
  one_alive : (old : OpenSpool D) (o : Option ℕ) (answer : Option Answer) (new : OpenSpool D) → IsStartingOf device old o answer new → IsBegun answer → old.dead ≡ false → new.dead ≡ false
  one_alive old None answer new (none, same) begun alive = ap (λ (x : OpenSpool D). x.dead) same ∙ alive
  one_alive old (Some j) None new is begun alive = absurd is
  one_alive old (Some j) (Some (Ok reply)) new (accepted, is) begun alive = is.cause.alive
  one_alive old (Some j) (Some (Err fault)) new is begun alive = absurd begun

  -- If each start was acknowledged, the device has not failed.
  pub starts_alive : (old : OpenSpool D) (ts : List (Starting D)) (new : OpenSpool D) → AreStartings device old ts new → AllBegun ts → old.dead ≡ false → new.dead ≡ false
  starts_alive old [] new same begun alive = ap (λ (x : OpenSpool D). x.dead) same ∙ alive
  starts_alive old (t ∷ ts) new (start, starts) (first, others) alive = starts_alive t.next ts new starts others (one_alive old (next_of old.state t.queue) t.answer t.next start first alive)

  answer_alive : (old : OpenSpool D) (e : Event) (a : Answer) (new : OpenSpool D) → IsAnswer device old e a new → answer_fault a ≡ None → old.dead ≡ false → new.dead ≡ false
  answer_alive old e (Ok reply) new is none alive = is.alive
  answer_alive old e (Err faults.Dead) new is none alive = absurd (cc)
  answer_alive old e (Err (faults.Refused refusal)) new is none alive = ap (λ (x : OpenSpool D). x.dead) is.2 ∙ alive
  answer_alive old e (Err faults.Memory) new is none alive = absurd (cc)
  answer_alive old e (Err faults.Full) new is none alive = absurd (cc)
  answer_alive old e (Err faults.Disk) new is none alive = absurd (cc)

  report_alive : (old : RunState D) (j : ℕ) (r : Report) (new : RunState D) → IsReport device old j r new → report_fault r ≡ None → old.spool.dead ≡ false → new.spool.dead ≡ false
  report_alive old j reports.Silent new is none alive = absurd is
  report_alive old j reports.NoMemory new is none alive = absurd (cc)
  report_alive old j (reports.Answered a) new is none alive = answer_alive old.spool (Stage (end_in old.slots j)) a new.spool is.0.cause none alive

  end_alive : (old : RunState D) (e : Ending D) (b : Bool) → IsEndingOf device old b e → report_fault e.report ≡ None → old.spool.dead ≡ false → e.next.spool.dead ≡ false
  end_alive old e true (silent, kept, same) none alive = ap (λ (c : RunState D). c.spool.dead) same ∙ alive
  end_alive old e false (finishes, same, report) none alive = report_alive e.kept e.job e.report e.next report none (ap (λ (x : OpenSpool D). x.dead) same ∙ alive)

  -- If no end had a fault, the device still works.
  pub ends_alive : (old : RunState D) (es : List (Ending D)) (new : RunState D) → AreEndings device old es new → ending_fault es ≡ None → old.spool.dead ≡ false → new.spool.dead ≡ false
  ends_alive old [] new same none alive = ap (λ (c : RunState D). c.spool.dead) same ∙ alive
  ends_alive old (e ∷ es) new are none alive =
      ends_alive e.next es new are.1 (or_second (report_fault e.report) (ending_fault es) none)
      (end_alive old e (is_silent (finite.get old.slots e.job)) are.0 (or_first (report_fault e.report) (ending_fault es) none) alive)

  -- The same if no read had a fault.
  pub reads_work : (old : OpenSpool D) (ls : List Launching) (new : OpenSpool D) → AreReads device old ls new → launching_fault ls ≡ None → old.dead ≡ false → new.dead ≡ false
  reads_work old [] new same none alive = ap (λ (x : OpenSpool D). x.dead) same ∙ alive
  reads_work old (l ∷ ls) new (next, first, reads) none alive = reads_work next ls new reads (or_second (launch_fault l.launch) (launching_fault ls) none) (by_dead next.dead refl)
    where
      by_dead : (b : Bool) → next.dead ≡ b → next.dead ≡ false
      by_dead false is = is
      by_dead true is = elim (first.dies.0 is) [
        | inl died ↦ absurd (both_ways _ alive died)
        | inr broke ↦ absurd (let here : launch_fault l.launch ≡ None = or_first (launch_fault l.launch) (launching_fault ls) none in let there : launch_fault l.launch ≡ Some ends.Disk = ap launch_fault broke in cc)
      ]

  -- The starts, and a run of stages after them.
  pub run_part : {mid : OpenSpool D} {slots : Slots} {told : Option ChildTrace} {js : List ℕ} {new : RunState D} (lawful : IsLawful device) (place : Place) (old : OpenSpool D) (ts : List (Starting D)) → AreStartings device old ts mid → (runs : IsRunOfStages device place (run_state mid slots told) js new) → IsPart device old (starting_tried old ts ++ ending_tried runs.endings) (starting_events old ts ++ ending_events runs.endings) new.spool
  run_part {mid} {slots} {told} {js} {new} lawful place old ts starts runs = round_part device lawful old mid ts starts runs.launchings runs.read runs.reads runs.slots runs.told runs.endings new runs.ends

  module _ (lawful : IsLawful device) (place : Place) (old : RunState D) (kept : IsKept device old.spool) (mid : OpenSpool D) (ts : List (Starting D)) (starts : AreStartings device old.spool ts mid) (queues : map (λ t. t.queue) ts ≡ finite.keys old.spool.state.queues) where
    -- The device failed at a start.
    pub dead_round : Laws → IsLegal old.spool.state → HasNoneRunning old.slots → old.spool.dead ≡ false → mid.dead ≡ true → (result : Result Round RoundFault) → result ≡ result_of (record { started = 0; finished = 0 }) (starting_fault ts) → IsRoundOf device place old (run_state mid (current_slots old.spool.state old.slots) old.told) result
    dead_round laws legal rests alive dead result answer = record {
      steps = record { startings = ts; mid = mid; launchings = []; read = mid; slots = current_slots old.spool.state old.slots; told = old.told; endings = [] };
      made = record {
        starts = starts;
        queues = queues;
        launches = (refl, refl);
        reads = refl;
        launched = sym (ap (jobs_run mid) dead);
        once = tt;
        ends = refl;
        ended = sym (ap (jobs_run mid) dead);
      };
      answer = answer ∙ ap (result_of (record { started = 0; finished = 0 })) (sym (or_none (starting_fault ts)));
      accepted = failed_accepted device laws old legal mid ts starts;
      table = part.table;
      any_moment = any_moment device lawful old.spool mid ts starts [] mid refl slots old.told [] failed refl kept;
      any_whole = any_whole device lawful old.spool mid ts starts [] mid refl slots old.told [] failed refl kept;
      lasting = lasting device lawful old.spool mid ts starts [] mid refl slots old.told [] failed refl;
      works = λ none lived. starts_alive old.spool ts mid starts (all_begun device old.spool ts mid starts (or_first (starting_fault ts) None none)) lived;
      all_acknowledged = part.acknowledged;
      in_hand = part.in_hand;
      turn = λ t tells quiet. failed_turn device laws old legal mid ts starts rests t tells alive;
      read = (λ j. [], tt);
      handed = λ bytes documents tells has. tt;
      exact = λ none t documents tells quiet handed.
          let lives : mid.dead ≡ false = starts_alive old.spool ts mid starts (all_begun device old.spool ts mid starts (or_first (starting_fault ts) None none)) alive in
          absurd (cc);
    }
      where
        slots : Slots
        slots = current_slots old.spool.state old.slots

        failed : RunState D
        failed = run_state mid slots old.told

        part : IsPart device old.spool (starting_tried old.spool ts ++ []) (starting_events old.spool ts ++ []) mid
        part = round_part device lawful old.spool mid ts starts [] mid refl slots old.told [] failed refl

    -- A stage of each processing job was run.
    module _ (js : List ℕ) (new : RunState D) (runs : IsRunOfStages device place (run_state mid (current_slots old.spool.state old.slots) old.told) js new) (jobs : js ≡ busy_jobs mid.state (finite.keys mid.state.queues)) where
      -- If nothing failed, it is Script's.
      live_exact : IsLegal old.spool.state → ((s : State) (events : List Event) → IsLegal s → IsLegal (after_all s events)) → AreExactStarts old.spool (finite.keys old.spool.state.queues) mid ts → AreExact device place (run_state mid (current_slots old.spool.state old.slots) old.told) js new runs → AreDistinct js → starting_fault ts ≡ None → launching_fault runs.launchings ≡ None → ending_fault runs.endings ≡ None → (t : ChildTrace) (documents : ℕ → List ℕ) → old.told ≡ Some t → t.running ≡ [] → AreHanded documents runs.launchings
          → IsScriptRound old (record { startings = ts; mid = mid; launchings = runs.launchings; read = runs.read; slots = runs.slots; told = runs.told; endings = runs.endings }) new (round_of place documents old.spool.state old.slots t)
      live_exact legal stays exact_starts exact distinct no_start no_launch no_end t documents tells quiet handed =
          let legal_mid : IsLegal mid.state = subst IsLegal (sym (starts_part device old.spool ts mid starts).table) (stays old.spool.state (starting_events old.spool ts) legal) in
          let numbers : HasNumbers mid.state = λ j r there. (legal_mid.jobs j r there).id in
          let same : runs.read.state ≡ mid.state = reads_state device mid runs.launchings runs.read runs.reads in
          let suits : AllSuit mid.state runs.slots = launches_suit place mid.state numbers (current_slots old.spool.state old.slots) old.told runs.launchings runs.slots runs.told runs.starts
          (starts_suit device old.spool ts mid (current_slots old.spool.state old.slots) starts (current_suit old.spool.state old.slots)) in
          let told = all_told device stays (run_state runs.read runs.slots runs.told) runs.endings new runs.ends (subst IsLegal (sym same) legal_mid) (suit_in device runs.read.state runs.slots (subst (λ s. AllSuit s runs.slots) (sym same) suits) (map (λ e. e.job) runs.endings)) (subst AreDistinct (sym runs.ended) distinct) no_end in
          let events = starting_events old.spool ts in
          let p = exact t events documents tells quiet (all_served runs.launchings no_launch) told handed in
          let begun = exact_starts (current_slots old.spool.state old.slots) t (all_begun device old.spool ts mid starts no_start) in
          let started : Play = record (play_from mid.state (current_slots old.spool.state old.slots) t) { events = events } in
          let list : js ≡ busy_jobs mid.state (finite.keys old.spool.state.queues) = jobs ∙ ap (busy_jobs mid.state) (starts_keys device old.spool ts mid starts) in
          let whole : play_stages place documents started js ≡ round_of place documents old.spool.state old.slots t =
          ap (play_stages place documents started) list ∙ ap (λ (q : Play). play_stages place documents q (busy_jobs q.state (finite.keys old.spool.state.queues))) (sym begun) in
          record {
            state = p.state ∙ ap (λ (q : Play). q.state) whole;
            slots = p.slots ∙ ap (λ (q : Play). q.slots) whole;
            told = p.told ∙ ap (λ (q : Play). Some q.told) whole;
            events = p.events ∙ ap (λ (q : Play). q.events) whole;
            started = p.started ∙ ap (λ (q : Play). q.started) whole;
            ended = p.ended ∙ ap (λ (q : Play). q.ended) whole;
          }

      pub live_round : old.spool.dead ≡ false → mid.dead ≡ false → IsLegal old.spool.state → Laws → HasNoneRunning old.slots → HasNoneRunning new.slots → AreExactStarts old.spool (finite.keys old.spool.state.queues) mid ts → AreExact device place (run_state mid (current_slots old.spool.state old.slots) old.told) js new runs → AreDistinct js
          → (result : Result Round RoundFault) → result ≡ result_of (counts_of runs.launchings runs.endings) (option_or (starting_fault ts) (stages_fault runs.launchings runs.endings)) → IsRoundOf device place old new result
      live_round lived alive legal laws rests rests_then exact_starts exact distinct result answer = record {
        steps = record { startings = ts; mid = mid; launchings = runs.launchings; read = runs.read; slots = runs.slots; told = runs.told; endings = runs.endings };
        made = record {
          starts = starts;
          queues = queues;
          launches = runs.starts;
          reads = runs.reads;
          launched = runs.started ∙ jobs ∙ sym (ap (jobs_run mid) alive);
          once = subst AreDistinct (sym runs.started) distinct;
          ends = runs.ends;
          ended = runs.ended ∙ jobs ∙ sym (ap (jobs_run mid) alive);
        };
        answer = answer;
        accepted = live_accepted device laws old legal mid ts starts place js new runs;
        table = part.table;
        any_moment = any_moment device lawful old.spool mid ts starts runs.launchings runs.read runs.reads runs.slots runs.told runs.endings new runs.ends kept;
        any_whole = any_whole device lawful old.spool mid ts starts runs.launchings runs.read runs.reads runs.slots runs.told runs.endings new runs.ends kept;
        lasting = lasting device lawful old.spool mid ts starts runs.launchings runs.read runs.reads runs.slots runs.told runs.endings new runs.ends;
        works = λ none lived.
            let later = or_second (starting_fault ts) (stages_fault runs.launchings runs.endings) none in
            ends_alive (run_state runs.read runs.slots runs.told) runs.endings new runs.ends (or_second (launching_fault runs.launchings) (ending_fault runs.endings) later)
            (reads_work mid runs.launchings runs.read runs.reads (or_first (launching_fault runs.launchings) (ending_fault runs.endings) later) alive);
        all_acknowledged = part.acknowledged;
        in_hand = part.in_hand;
        turn = λ t tells quiet. live_turn device laws old legal mid ts starts place js new runs distinct rests rests_then t tells quiet lived;
        read = some_handed runs.launchings (subst AreDistinct (sym runs.started) distinct);
        handed = λ bytes documents tells has. handed device lawful old.spool mid ts starts runs.launchings runs.read runs.reads runs.slots runs.told runs.endings new runs.ends alive bytes documents tells has
            place (current_slots old.spool.state old.slots) runs.slots old.told runs.told runs.starts;
        exact = λ none t documents tells quiet handed.
            let later = or_second (starting_fault ts) (stages_fault runs.launchings runs.endings) none in
            live_exact legal laws.legal exact_starts exact distinct (or_first (starting_fault ts) (stages_fault runs.launchings runs.endings) none)
            (or_first (launching_fault runs.launchings) (ending_fault runs.endings) later) (or_second (launching_fault runs.launchings) (ending_fault runs.endings) later) t documents tells quiet handed;
      }
        where
          part : IsPart device old.spool (starting_tried old.spool ts ++ ending_tried runs.endings) (starting_events old.spool ts ++ ending_events runs.endings) new.spool
          part = run_part lawful place old.spool ts starts runs

    -- The same over slots that are the current ones, whatever the answers to the starts.
    pub whole_round : old.spool.dead ≡ false → mid.dead ≡ false → IsLegal old.spool.state → Laws → HasNoneRunning old.slots → AreExactStarts old.spool (finite.keys old.spool.state.queues) mid ts
        → (slots : Slots) → slots ≡ current_slots old.spool.state old.slots → (js : List ℕ) → js ≡ busy_jobs mid.state (finite.keys mid.state.queues) → AreDistinct js
        → (new : RunState D) → HasNoneRunning new.slots → (stages : Result Round RoundFault) → ((runs : IsRunOfStages device place (run_state mid slots old.told) js new) × AreExact device place (run_state mid slots old.told) js new runs × (stages ≡ result_of (counts_of runs.launchings runs.endings) (stages_fault runs.launchings runs.endings)))
        → (result : Result Round RoundFault) → ((round : Round) (later : Option RoundFault) → stages ≡ result_of round later → result ≡ result_of round (option_or (starting_fault ts) later)) → IsRoundBy device place old old.spool.dead new result
    whole_round alive mid_alive legal laws rests exact_starts slots freed js jobs distinct new rests_then stages steps result answer =
        let (runs, exact, is) = subst (λ sl. (runs : IsRunOfStages device place (run_state mid sl old.told) js new) × AreExact device place (run_state mid sl old.told) js new runs × (stages ≡ result_of (counts_of runs.launchings runs.endings) (stages_fault runs.launchings runs.endings))) freed steps in
        subst (λ b. IsRoundBy device place old b new result) (sym alive)
        (inr (live_round js new runs jobs alive mid_alive legal laws rests rests_then exact_starts exact distinct result (answer (counts_of runs.launchings runs.endings) (stages_fault runs.launchings runs.endings) is)))

    -- The same if the device failed at a start.
    pub failed_round : Laws → IsLegal old.spool.state → HasNoneRunning old.slots → old.spool.dead ≡ false → mid.dead ≡ true → (slots : Slots) → slots ≡ current_slots old.spool.state old.slots → (result : Result Round RoundFault) → result ≡ result_of (record { started = 0; finished = 0 }) (starting_fault ts) → IsRoundBy device place old old.spool.dead (run_state mid slots old.told) result
    failed_round laws legal rests alive dead slots freed result answer =
        subst (λ b. IsRoundBy device place old b (run_state mid slots old.told) result) (sym alive)
        (inr (subst (λ sl. IsRoundOf device place old (run_state mid sl old.told) result) (sym freed) (dead_round laws legal rests alive dead result answer)))
