-- The engine of a service changes by calls.
use Rattle.std.proofs.Common.{◌≡◌, ◌≤◌, ℕ, Bool, true, false, cond, List, [], ◌∷◌, ◌++◌, Option, None, Some, IfSome, IsSome, inl, inr, refl, ap, sym, ◌∙◌, subst}
use Rattle.spool_types.specs.State.{State}
use Rattle.spool_types.specs.declared.event.Event.{Event}
use Rattle.spool_types.specs.declared.event.Event.TheVariants.{Purge}
use Rattle.spool_types.specs.declared.event.Reply.{Reply}
use Rattle.spool_disk.specs.Disk.{DiskView, LeavesOnly}
use Rattle.job_table.specs.EventFold.{after_all}
use Rattle.job_table.specs.TableCalls.{AreOnce}
use Rattle.job_table.specs.TableVersions.{raised}
use Rattle.command_lines.specs.declared.command.Command.{Command}
use Rattle.command_lines.specs.declared.command.Command.TheVariants as commands
use Rattle.command_lines.specs.declared.command.Command.TheVariants.{Apply}
use Rattle.command_lines.specs.declared.command.Creation.{Creation}
use Rattle.spool_core.specs.OpenSpools.{IsSettled as NoneStaged}
use Rattle.child_pipeline.specs.StageSlots.{Slots}
use Rattle.print_rounds.specs.RunStates.{RunState}
use Rattle.print_rounds.specs.StageHistory.{keys_in}
use Rattle.print_rounds.specs.RoundTicks.{count_running}
use Rattle.print_rounds.specs.declared.start_room.TickLimits.{TickLimits}
use Rattle.spool_engine.specs.StagedSteps.{IsStagingStep, IsStagingTick, SettlesTo, TakesStagingStep}
use Rattle.spool_engine.specs.EngineCalls.{Call, round_call, tick_call, run_call, stage_call, settle_call, left_by, IsCall, AreCalls, IsAlongCalls, last_by}
use Rattle.spool_engine.specs.EventSteps.{Setting, setting}
use Rattle.spool_engine.specs.EngineLives.{EngineLife, IsEngineLife, AreEngineLives, IsEngineHistory, keys_told, last_of}
use Rattle.spool_engine.specs.EngineRounds.{Ran, AreRunBy}
use Rattle.spool_engine.specs.EngineRuns.{Engine, CommandStep, AreCommandSteps, HasNoRounds, How, IsHow, answered, ran, withheld, commands_in, is_round, last_run_state}
use Rattle.spool_engine.specs.Mime.{Mime}
use Rattle.spool_engine.specs.Script.{asks, creating, meaning, says}
use Rattle.spool_engine.specs.EngineTicks.{Ticked}
use Rattle.service_loop.specs.ClientActions.{IsDurable}
use Rattle.service_loop.specs.ServiceCalls.{AreWithin, GoesByCalls, GoesWithin, HasAnswered, HasLimit, HasAnsweredAll, IsWithin, purges, ServiceLife, IsServiceLife, AreServiceLives, IsServiceHistory, keys_ordered}

-- ## Commands without rounds

module _ {D : Type 0} (v : Setting D) (s : RunState D) (rs : List (Ran D)) (new : RunState D) (reply : List ℕ) where
  asked_no_round : (b : Bool) (e : Event) (line : Reply → List ℕ) (text : List ℕ) → AreRunBy v (cond b (asks e line) (says text)) s rs new reply → ⊥
  asked_no_round true e line text is = is
  asked_no_round false e line text is = is

  created_no_round : (table : State) (c : Creation) (options : Option (List ℕ)) → AreRunBy v (creating table c options) s rs new reply → ⊥
  created_no_round table c None is = is
  created_no_round table c (Some options) is = is

  ran_no_round : (m : Mime) (table : State) (document : List ℕ) (c : Command) → is_round c ≡ false → AreRunBy v (meaning m table document c) s rs new reply → ⊥
  ran_no_round m table document (commands.Apply e) none is = is
  ran_no_round m table document (commands.Queue q) none is = asked_no_round _ _ _ _ is
  ran_no_round m table document (commands.Create c) none is = created_no_round table c _ is
  ran_no_round m table document (commands.Close job name) none is = is
  ran_no_round m table document commands.OversizedSend none is = is
  ran_no_round m table document commands.Jobs none is = is
  ran_no_round m table document commands.Queues none is = is
  ran_no_round m table document commands.Round none is = absurd (cc)
  ran_no_round m table document (commands.Drain most) none is = absurd (cc)
  ran_no_round m table document commands.Checkpoint none is = is
  ran_no_round m table document commands.Malformed none is = is

module _ {D : Type 0} (device : DiskView D) where
  pub no_calls : (e : Engine D) → GoesByCalls device e e
  no_calls e = record { mime = refl; place = refl; calls = []; are = tt; last = refl }

  are_then : (v : Setting D) (s : RunState D) (first later : List (Call D)) (mid : RunState D) → last_by s first ≡ mid → AreCalls v s first → AreCalls v mid later → AreCalls v s (first ++ later)
  are_then v s [] later mid is one other = subst (λ (x : RunState D). AreCalls v x later) (sym is) other
  are_then v s (c ∷ first) later mid is one other = (one.0, are_then v (left_by s c) first later mid is one.1 other)

  last_then : (s : RunState D) (first later : List (Call D)) (mid : RunState D) → last_by s first ≡ mid → last_by s (first ++ later) ≡ last_by mid later
  last_then s [] later mid is = ap (λ (x : RunState D). last_by x later) is
  last_then s (c ∷ first) later mid is = last_then (left_by s c) first later mid is

  -- Calls, followed by further calls.
  pub calls_then : (e e1 e2 : Engine D) → GoesByCalls device e e1 → GoesByCalls device e1 e2 → GoesByCalls device e e2
  calls_then e e1 e2 one other = record {
    mime = other.mime ∙ one.mime;
    place = other.place ∙ one.place;
    calls = one.calls ++ other.calls;
    are =
        are_then (setting device e.mime e.place) e.run_state one.calls other.calls e1.run_state one.last one.are
        (subst (λ m. AreCalls (setting device m e.place) e1.run_state other.calls) one.mime
        (subst (λ p. AreCalls (setting device e1.mime p) e1.run_state other.calls) one.place other.are));
    last = last_then e.run_state one.calls other.calls e1.run_state one.last ∙ other.last;
  }

  -- ## The same with the limit of running children

  -- The calls without the limit.
  pub goes_of : (most : ℕ) (e : Engine D) (left : ℕ) (e1 : Engine D) → GoesWithin device most e left e1 → GoesByCalls device e e1
  goes_of most e left e1 w = record { mime = w.mime; place = w.place; calls = w.calls; are = w.are; last = w.last }

  pub within_none : (most : ℕ) (e : Engine D) → GoesWithin device most e most e
  within_none most e = record { mime = refl; place = refl; calls = []; are = tt; last = refl; within = tt; same = refl }

  are_within : (most : ℕ) (first later : List (Call D)) → AreWithin most first → AreWithin most later → AreWithin most (first ++ later)
  are_within most [] later one other = other
  are_within most (c ∷ first) later one other = (one.0, are_within most first later one.1 other)

  -- Calls, followed by further calls.
  pub within_then : (m : ℕ) (e : Engine D) (m1 : ℕ) (e1 : Engine D) (m2 : ℕ) (e2 : Engine D) → GoesWithin device m e m1 e1 → GoesWithin device m1 e1 m2 e2 → GoesWithin device m e m2 e2
  unfolding calls_then goes_of
  within_then m e m1 e1 m2 e2 one other =
      let both = calls_then e e1 e2 (goes_of m e m1 e1 one) (goes_of m1 e1 m2 e2 other) in
      record {
        mime = both.mime;
        place = both.place;
        calls = both.calls;
        are = both.are;
        last = both.last;
        within = are_within m one.calls other.calls one.within (subst (λ (n : ℕ). AreWithin n other.calls) one.same other.within);
        same = other.same ∙ one.same;
      }

  -- Calls, and an engine that is as they left it.
  pub within_kept : (m : ℕ) (e : Engine D) (m1 : ℕ) (e1 : Engine D) (m2 : ℕ) (e2 : Engine D) → GoesWithin device m e m1 e1 → e2 ≡ e1 → m2 ≡ m1 → GoesWithin device m e m2 e2
  within_kept m e m1 e1 m2 e2 goes same kept =
      subst (λ (n : ℕ). GoesWithin device m e n e2) (sym kept) (subst (λ (x : Engine D). GoesWithin device m e m1 x) (sym same) goes)

  -- An unchanged engine before calls.
  pub within_since : (m : ℕ) (e : Engine D) (m1 : ℕ) (e1 : Engine D) (m2 : ℕ) (e2 : Engine D) → e1 ≡ e → m1 ≡ m → GoesWithin device m1 e1 m2 e2 → GoesWithin device m e m2 e2
  within_since m e m1 e1 m2 e2 same kept goes =
      subst (λ (n : ℕ). GoesWithin device n e m2 e2) kept (subst (λ (x : Engine D). GoesWithin device m1 x m2 e2) same goes)

  -- The engine in a turn of the loop: unchanged before the clients' turns, then three lists of calls.
  pub turn_within : (m : ℕ) (e : Engine D) (m2 : ℕ) (e2 : Engine D) (m3 : ℕ) (e3 : Engine D) (m4 : ℕ) (e4 : Engine D) (m5 : ℕ) (e5 : Engine D) → e2 ≡ e → m2 ≡ m →
      GoesWithin device m2 e2 m3 e3 → GoesWithin device m3 e3 m4 e4 → GoesWithin device m4 e4 m5 e5 → GoesWithin device m e m5 e5
  turn_within m e m2 e2 m3 e3 m4 e4 m5 e5 same kept clients ticked maintained =
      within_since m e m2 e2 m5 e5 same kept (within_then m2 e2 m4 e4 m5 e5 (within_then m2 e2 m3 e3 m4 e4 clients ticked) maintained)

  -- A command that was staged, or executed after a settle, without rounds.
  within_step : (most : ℕ) (e e1 : Engine D) (t : CommandStep D) → e1.mime ≡ e.mime → e1.place ≡ e.place → is_round t.command ≡ false → IsStagingStep (setting device e.mime e.place) e.run_state t → t.next ≡ e1.run_state → GoesWithin device most e most e1
  within_step most e e1 t mime place none (inl staged) next = record {
    mime = mime;
    place = place;
    calls = stage_call t ∷ [];
    are = (staged, tt);
    last = next;
    within = (tt, tt);
    same = refl;
  }
  within_step most e e1 t mime place none (inr (mid, settles, both, step)) next = record {
    mime = mime;
    place = place;
    calls = settle_call mid ∷ run_call (t ∷ []) ∷ [];
    are = (settles, ((both, (step, tt)), tt));
    last = next;
    within = (tt, ((none, tt), tt));
    same = refl;
  }

  pub within_turn : (most : ℕ) (e e1 : Engine D) (command : Command) (t : CommandStep D) → e1.mime ≡ e.mime → e1.place ≡ e.place → is_round command ≡ false →
      TakesStagingStep (setting device e.mime e.place) e.run_state command t e1.run_state → GoesWithin device most e most e1
  within_turn most e e1 command t mime place none takes = within_step most e e1 t mime place (ap is_round takes.command ∙ none) takes.legal takes.next

  -- A settle.
  pub within_settle : (most : ℕ) (e e1 : Engine D) → e1.mime ≡ e.mime → e1.place ≡ e.place → SettlesTo device e.run_state e1.run_state → GoesWithin device most e most e1
  within_settle most e e1 mime place settles = record {
    mime = mime;
    place = place;
    calls = settle_call e1.run_state ∷ [];
    are = (settles, tt);
    last = refl;
    within = (tt, tt);
    same = refl;
  }

  -- A tick after a settle.
  pub within_tick : (most : ℕ) (e e1 : Engine D) (t : Ticked D) → e1.mime ≡ e.mime → e1.place ≡ e.place → IsStagingTick (setting device e.mime e.place) e.run_state t → t.next ≡ e1.run_state →
      HasLimit most t.limits → GoesWithin device most e most e1
  within_tick most e e1 t mime place (mid, settles, both, ticked) next limit = record {
    mime = mime;
    place = place;
    calls = settle_call mid ∷ tick_call t ∷ [];
    are = (settles, ((both, ticked), tt));
    last = next;
    within = (tt, (limit, tt));
    same = refl;
  }

  -- ## The children that run

  -- A command without rounds starts no child.
  held_by_how : (v : Setting D) (s : RunState D) (t : CommandStep D) (how : How D) → is_round t.command ≡ false → IsHow v s t how → t.next.slots ≡ s.slots
  held_by_how v s t (answered outcome) none (is, held, other) = held.slots
  held_by_how v s t (ran rs) none is = absurd (ran_no_round v s rs t.next t.text v.mime s.spool.state t.document t.command none is)
  held_by_how v s t withheld none is = ap (λ (x : RunState D). x.slots) is.same

  held_by_steps : (v : Setting D) (s : RunState D) (turns : List (CommandStep D)) → AreCommandSteps v s turns → HasNoRounds (commands_in turns) → (last_run_state s turns).slots ≡ s.slots
  held_by_steps v s [] are none = refl
  held_by_steps v s (t ∷ ts) (step, others) (first, later) = held_by_steps v t.next ts others later ∙ held_by_how v s t t.how first step.how

  few_by_tick : (most : ℕ) (s : RunState D) (limits : Option TickLimits) (next : RunState D) → HasLimit most limits →
      IfSome limits (λ l. count_running s.slots ≤ l.most → count_running next.slots ≤ l.most) → count_running s.slots ≤ most → count_running next.slots ≤ most
  few_by_tick most s None next limit kept few = absurd limit
  few_by_tick most s (Some limits) next limit kept few = subst (λ (n : ℕ). count_running s.slots ≤ n → count_running next.slots ≤ n) limit kept few

  few_by_call : (most : ℕ) (v : Setting D) (s : RunState D) (c : Call D) → IsCall v s c → IsWithin most c → count_running s.slots ≤ most → count_running (left_by s c).slots ≤ most
  few_by_call most v s (round_call r) is within few = absurd within
  few_by_call most v s (tick_call t) is within few = few_by_tick most s t.limits t.next within is.1.most few
  few_by_call most v s (run_call turns) is within few = subst (λ (slots : Slots). count_running slots ≤ most) (sym (held_by_steps v s turns is.1 within)) few
  few_by_call most v s (stage_call t) is within few = subst (λ (slots : Slots). count_running slots ≤ most) (sym is.held.slots) few
  few_by_call most v s (settle_call next) is within few = subst (λ (slots : Slots). count_running slots ≤ most) (sym is.held.slots) few

  few_by_calls : (most : ℕ) (v : Setting D) (s : RunState D) (cs : List (Call D)) → AreCalls v s cs → AreWithin most cs → count_running s.slots ≤ most → count_running (last_by s cs).slots ≤ most
  few_by_calls most v s [] are within few = few
  few_by_calls most v s (c ∷ cs) (is, others) (within, later) few = few_by_calls most v (left_by s c) cs others later (few_by_call most v s c is within few)

  pub few_run : (most : ℕ) (e : Engine D) (left : ℕ) (e1 : Engine D) → GoesWithin device most e left e1 → count_running e.run_state.slots ≤ most → count_running e1.run_state.slots ≤ left
  few_run most e left e1 goes few =
      subst (λ (n : ℕ). count_running e1.run_state.slots ≤ n) (sym goes.same)
      (subst (λ (s : RunState D). count_running s.slots ≤ most) goes.last (few_by_calls most (setting device e.mime e.place) e.run_state goes.calls goes.are goes.within few))

  -- A command that was executed was answered.
  pub answered_by : (e e1 : Engine D) (command : Command) (t : CommandStep D) → GoesByCalls device e e1 →
      TakesStagingStep (setting device e.mime e.place) e.run_state command t e1.run_state → HasAnswered device e command e1
  answered_by e e1 command t goes takes = record { mime = goes.mime; place = goes.place; turn = t; takes = takes }

  -- A job was purged, and then the others.
  pub purged_next : (e e1 e2 : Engine D) (jobs : List ℕ) (job : ℕ) (others : List ℕ) → jobs ≡ job ∷ others → HasAnswered device e (Apply (Purge job)) e1 → HasAnsweredAll device e1 (purges others) e2 →
      HasAnsweredAll device e (purges jobs) e2
  purged_next e e1 e2 jobs job others is first all = subst (λ (js : List ℕ). HasAnsweredAll device e (purges js) e2) (sym is) (e1, first, all)

  -- ## The table after a crash

  -- A property of the disk after the last call holds of the disk that is left.
  pub along_service : (e e1 : Engine D) (goes : GoesByCalls device e e1) →
      LeavesOnly device e.run_state.spool.disk (last_by e.run_state goes.calls).spool.disk (IsAlongCalls e.mime e.run_state goes.calls) →
      LeavesOnly device e.run_state.spool.disk e1.run_state.spool.disk (IsAlongCalls e.mime e.run_state goes.calls)
  along_service e e1 goes run =
      subst (λ (s : RunState D). LeavesOnly device e.run_state.spool.disk s.spool.disk (IsAlongCalls e.mime e.run_state goes.calls)) goes.last run

  -- The same after calls that left nothing staged.
  pub along_after : (old mid new : Engine D) (before : GoesByCalls device old mid) (after : GoesByCalls device mid new) →
      (AreCalls (setting device old.mime old.place) old.run_state (before.calls ++ after.calls) → NoneStaged (last_by old.run_state before.calls).spool →
      (last_by old.run_state before.calls).spool.dead ≡ false → IsSome (device.bytes (last_by old.run_state before.calls).spool.disk) →
      LeavesOnly device (last_by old.run_state before.calls).spool.disk (last_by old.run_state (before.calls ++ after.calls)).spool.disk (IsAlongCalls old.mime (last_by old.run_state before.calls) after.calls)) →
      IsDurable mid.run_state.spool → IsSome (device.bytes mid.run_state.spool.disk) →
      LeavesOnly device mid.run_state.spool.disk new.run_state.spool.disk (IsAlongCalls old.mime mid.run_state after.calls)
  unfolding calls_then
  along_after old mid new before after law (alive, none) tells =
      let both = calls_then old mid new before after in
      let back = sym before.last in
      let run = law both.are (subst (λ (s : RunState D). NoneStaged s.spool) back (λ works. none)) (subst (λ (s : RunState D). s.spool.dead ≡ false) back alive)
      (subst (λ (s : RunState D). IsSome (device.bytes s.spool.disk)) back tells) in
      subst (λ (s : RunState D). LeavesOnly device s.spool.disk new.run_state.spool.disk (IsAlongCalls old.mime s after.calls)) before.last
      (subst (λ (t : RunState D). LeavesOnly device (last_by old.run_state before.calls).spool.disk t.spool.disk (IsAlongCalls old.mime (last_by old.run_state before.calls) after.calls)) both.last run)

  -- ## Lives

  -- The engine of a service has a life: a run of no command, and its calls.
  as_engine : (l : ServiceLife D) → IsServiceLife device l → EngineLife D
  as_engine l is = record {
    mime = (l.start).mime;
    place = (l.start).place;
    start = (l.start).run_state;
    told = l.told;
    first = run_call [];
    later = is.goes.calls;
    orders = l.orders;
  }

  is_engine : (l : ServiceLife D) (is : IsServiceLife device l) → IsEngineLife device (as_engine l is)
  unfolding as_engine
  is_engine l is = record {
    legal = is.legal;
    idle = is.idle;
    empty = is.empty;
    tells = is.tells;
    quiet = is.quiet;
    calls = (((is.settled, is.settled), tt), is.goes.are);
    now = is.now;
    tells_then = ap (λ (s : RunState D). s.told) is.goes.last ∙ is.tells_then;
    added = is.added;
  }

  as_engines : (ls : List (ServiceLife D)) (s u : State) → u ≡ s → AreServiceLives device s ls → (es : List (EngineLife D)) × AreEngineLives device u es × (keys_told es ≡ keys_ordered ls)
  unfolding as_engine
  as_engines [] s u same are = ([], tt, refl)
  as_engines (l ∷ ls) s u same (is, further, others) =
      let (es, lives, keys) = as_engines ls (l.last).run_state.spool.state (last_of (as_engine l is)).spool.state (ap (λ (c : RunState D). c.spool.state) is.goes.last) others in (
        as_engine l is ∷ es,
        (is_engine l is, (further.0, further.1 ∙ ap (λ w. after_all (raised w) further.0) (sym same)), lives),
        ap (λ k. keys_in l.orders ++ k) keys,
      )

  pub services_once : ((es : List (EngineLife D)) → IsEngineHistory device es → AreOnce (keys_told es)) → (ls : List (ServiceLife D)) → IsServiceHistory device ls → AreOnce (keys_ordered ls)
  unfolding as_engine
  services_once once [] world = tt
  services_once once (l ∷ ls) (is, others) =
      let (es, lives, keys) = as_engines ls (l.last).run_state.spool.state (last_of (as_engine l is)).spool.state (ap (λ (c : RunState D). c.spool.state) is.goes.last) others in
      subst AreOnce (ap (λ k. keys_in l.orders ++ k) keys) (once (as_engine l is ∷ es) (is_engine l is, lives))
