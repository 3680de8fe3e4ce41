-- Runs without a failure.
use Rattle.std.proofs.Common.{◌≡◌, ℕ, zero, suc, List, [], ◌∷◌, ◌++◌, cond, codes, length, map, refl, arith, ap, sym, ◌∙◌, subst, ◌⊎◌, inl, inr, ⊎_elim, true, false, Bool, Option, None, Some, Result, Ok, Err}
use Rattle.std.specs.List.{flat_map}
use Rattle.std.specs.Result.{IsOk}
use Rattle.std.specs.Io.KnownBytes.{Appends}
use Rattle.spool_types.specs.declared.event.Event.{Event}
use Rattle.spool_types.specs.declared.event.Event.TheVariants as events
use Rattle.spool_types.specs.declared.event.Reply.{Reply}
use Rattle.spool_types.specs.declared.refusal.Refusal.{Refusal}
use Rattle.spool_types.specs.State.{State}
use Rattle.spool_types.specs.declared.version.Version.TheVariants.{Two}
use Rattle.job_table.specs.Step.{step, refusal_of}
use Rattle.job_table.specs.EventFold.{after_all}
use Rattle.job_table.specs.TableVersions.{raised}
use Rattle.command_lines.specs.Text.{commands_of}
use Rattle.command_lines.specs.declared.command.Command.{Command}
use Rattle.command_lines.specs.declared.command.Command.TheVariants as commands
use Rattle.command_lines.specs.declared.command.Creation.{Creation}
use Rattle.device_uri.specs.DeviceUris.{is_device_uri}
use Rattle.filter_args.specs.declared.place.Place.{Place}
use Rattle.spool_disk.specs.Disk.{DiskView}
use Rattle.spool_core.specs.OpenSpools.{OpenSpool}
use Rattle.child_pipeline.specs.StageSlots.{Slots}
use Rattle.child_pipeline.specs.Tickets.{HasTickets}
use Rattle.child_pipeline.specs.ChildTraces.{ChildTrace}
use Rattle.print_rounds.specs.RunStates.{RunState, AreHanded}
use Rattle.print_rounds.specs.Finished.{EachFinishedOnce, HasNoneRunning}
use Rattle.print_rounds.specs.Counts.{counts_of as counts_told, result_of}
use Rattle.print_rounds.specs.Rounds.{IsRoundOf, fault_in}
use Rattle.print_rounds.specs.RoundScript.{Play, play_from, plays, round_of, waited}
use Rattle.print_rounds.specs.RoundTicks.{running_jobs}
use Rattle.print_rounds.specs.declared.outcome.Round.{Round}
use Rattle.print_rounds.specs.declared.outcome.RoundFault.{RoundFault}
use Rattle.spool_engine.specs.Mime.{Mime}
use Rattle.spool_engine.specs.Script.{Meaning, says, asks, lists, runs, meaning, meaning_in, meaning_with, withheld_line, withholds, document_for, creating, job_options, reply_line, Documents, Asked, ScriptState, script_state_after, settled, counts_of, is_idle, unless, rounds_of, last_script_state, step_line, step_state, reply_by, after_by, events_by, reply_of, after_command, events_of_command, script_text, script_events, run_script_state}
use Rattle.spool_engine.specs.EventSteps.{Setting, Outcome, served, IsTaken, IsServedBy, IsOutcome, is_checkpoint}
use Rattle.spool_engine.specs.EngineRounds.{Ran, IsRoundWith, IsRan, IsSettled, AreRan, AreAll, IsRest, is_last, results_of, counts_in, with_counts, line_told, AreRunBy}
use Rattle.spool_engine.specs.EngineRuns.{CommandStep, How, answered, ran, withheld, event_step, read_in, read_by, asked_of, IsHow, IsHeld, IsWithheld, IsWell, AllServed, AreCommandSteps, last_run_state, texts_of, commands_in, Lead, IsScript, IsScriptState, IsExact, HasNoRounds, KeepVersion, is_round, script_state_with}
use Rattle.spool_engine.proofs.EventLaws.{step_folds}
use Rattle.spool_engine.proofs.SettleLaws.{FinishLaw, no_tickets, told_same, waited_state, waits_all}
use Rattle.print_rounds.proofs.PrefixLaws.{after_both}

-- The children report the trace of the ScriptState, and the slots have the tickets of the running ones.
pub record IsTelling {D : Type 0} (s : RunState D) (x : ScriptState) : Type 0 where
  pub slots : s.slots ≡ x.slots
  pub told : s.told ≡ Some x.told
  pub tickets : HasTickets x.slots x.told

-- ## A command without rounds

-- The state after the table's answer.
taken_state : {D : Type 0} (s : OpenSpool D) (e : Event) (r : Result (State × Reply) Refusal) (s' : OpenSpool D) → step s.state e ≡ r → IsTaken s e r s' → s'.state ≡ step_state s.state r
taken_state s e (Ok r) s' is h = ap (step_state s.state) (sym h.step ∙ is)
taken_state s e (Err refusal) s' is h = ap (λ x. x.state) h.1

-- In the newest version a checkpoint does not raise the version.
pub raised_same : (s : State) → s.version ≡ Two → raised s ≡ s
raised_same s is = sym (ap (λ w. record s { version = w }) is)

abbrev pub is_listing : Meaning → Bool
is_listing (says text) = false
is_listing (asks e line) = false
is_listing lists = true
is_listing (runs most line) = false

-- A reply and a state as Script has them for a command with these documents, on a table that is the state's own.
pub record IsSaid (place : Place) (documents : ℕ → Documents) (x : ScriptState) (w : Meaning) (reply : List ℕ) (new : State) : Type 0 where
  pub text : reply ≡ reply_by place documents x w
  pub state : new ≡ (after_by place documents x w).state
  pub table : (x.state.version ≡ Two) ⊎ (is_listing w ≡ false) → new ≡ after_all x.state (events_by place documents x w)

served_exact : {D : Type 0} (v : DiskView D) (place : Place) (documents : ℕ → Documents) (s s' : OpenSpool D) (x : ScriptState) (w : Meaning) (text : List ℕ) → s.state ≡ x.state → IsServedBy v s w text s' → IsSaid place documents x w text s'.state
served_exact v place documents s s' x (says text) reply e h = record { text = h.0; state = ap (λ y. y.state) h.1 ∙ e; table = λ keeps. ap (λ y. y.state) h.1 ∙ e }
served_exact v place documents s s' x (asks event line) reply e h =
    let state : s'.state ≡ step_state x.state (step x.state event) = taken_state s event (step s.state event) s' refl h.1 ∙ ap (λ y. step_state y (step y event)) e in
    record {
      text = h.0 ∙ ap (λ y. step_line line (step y event)) e;
      state = state;
      table = λ keeps. state ∙ step_folds x.state event (refusal_of x.state event);
    }
served_exact v place documents s s' x lists reply e h =
    let state : s'.state ≡ raised x.state = h.1.state ∙ ap raised e in
    record {
      text = h.0;
      state = state;
      table = λ keeps. ⊎_elim (λ newest. state ∙ raised_same x.state newest) (λ plain. absurd cc) keeps;
    }
served_exact v place documents s s' x (runs most line) reply e h = absurd h

-- ## A round

abbrev ok_or : {X E : Type 0} → X → Result X E → X
ok_or d (Ok x) = x
ok_or d (Err f) = d

abbrev some_or : {X : Type 0} → X → Option X → X
some_or d None = d
some_or d (Some x) = x

-- The steps of a round that returned Ok had no fault.
faultless : (counts : Round) (fault : Option RoundFault) (round : Round) → Ok round ≡ result_of counts fault → (fault ≡ None) × (round ≡ counts)
faultless counts None round e = (refl, ap (ok_or round) e)
faultless counts (Some f) round e = absurd cc

abbrev round_with : ℕ → ℕ → Round
round_with started finished = record { started = started; finished = finished }

same_counts : (a b c d : ℕ) → a ≡ c → b ≡ d → round_with a b ≡ round_with c d
same_counts a b c d e f = ap (λ n. round_with n b) e ∙ ap (round_with c) f

-- A round as a play of Script.
record IsPlayed {D : Type 0} (p : Play) (before : State) (new : RunState D) (round : Round) : Type 0 where
  counts : round ≡ counts_of p
  state : new.spool.state ≡ p.state
  telling : IsTelling new (script_state_after p)
  table : new.spool.state ≡ after_all before p.events

made_played : {D : Type 0} (v : Setting D) (s : RunState D) (r : Ran D) (round : Round) (t : ChildTrace) (documents : Documents) (made : IsRoundOf v.device v.place s r.next r.result) → r.result ≡ Ok round → s.told ≡ Some t → t.running ≡ [] → AreHanded documents made.steps.launchings
    → (js : List ℕ) × EachFinishedOnce t r.next.told js → HasNoneRunning r.next.slots → IsPlayed (round_of v.place documents s.spool.state s.slots t) s.spool.state r.next round
made_played v s r round t documents made ok told rest handed (js, once) rests =
    let (none, is) = faultless (counts_told made.steps.launchings made.steps.endings) (fault_in made.steps) round (sym ok ∙ made.answer) in
    let exact = made.exact none t documents told rest handed in
    let p = round_of v.place documents s.spool.state s.slots t in
    let last : p.told ≡ once.now = ap (some_or p.told) (sym exact.told ∙ once.tells) in
    record {
      counts = is ∙ same_counts _ _ p.started p.ended exact.started exact.ended;
      state = exact.state;
      telling = record { slots = exact.slots; told = exact.told; tickets = no_tickets p.slots p.told (subst HasNoneRunning exact.slots rests) (ap (λ x. x.running) last ∙ once.finished.running) };
      table = made.table ∙ ap (after_all s.spool.state) exact.events;
    }

-- The state after the running children were waited for.
record IsQuietState {D : Type 0} (s : RunState D) (x : ScriptState) : Type 0 where
  state : s.spool.state ≡ x.state
  telling : IsTelling s x
  rest : x.told.running ≡ []

quiet_state : {D : Type 0} (finish : FinishLaw) (s c : RunState D) (x : ScriptState) → IsSettled s c → s.spool.state ≡ x.state → IsTelling s x → IsQuietState c (settled x)
quiet_state finish s c x is e tell =
    let p = play_from x.state x.slots x.told in
    let (fs, steps, jobs) = is.steps in
    let like = waits_all finish fs p s.slots s.told c.slots c.told (record { slots_are = tell.slots; told_is = tell.told; tickets = tell.tickets }) steps in
    let same : plays waited p (map (λ f. f.job) fs) ≡ plays waited p (running_jobs x.slots) = ap (plays waited p) (jobs ∙ ap running_jobs tell.slots) in
    let off = is.finished x.told tell.told (subst (λ m. HasTickets m x.told) (sym tell.slots) tell.tickets) in
    let told : c.told ≡ Some (settled x).told = like.told_is ∙ ap (λ (q : Play). Some q.told) same in
    record {
      state = ap (λ y. y.state) is.spool ∙ e ∙ sym (waited_state p (running_jobs x.slots));
      telling = record { slots = like.slots_are ∙ ap (λ (q : Play). q.slots) same; told = told; tickets = subst (λ (q : Play). HasTickets q.slots q.told) same like.tickets };
      rest = ap (λ (u : ChildTrace). u.running) (told_same (settled x).told off.now (sym told ∙ off.tells)) ∙ off.none;
    }

-- These are the documents that were read in a round.
abbrev pub GoesFor : {D : Type 0} → Setting D → Ran D → Documents → Type 0
GoesFor v r documents = (made : IsRoundOf v.device v.place r.settled r.next r.result) → AreHanded r.documents made.steps.launchings → AreHanded documents made.steps.launchings

round_from : {D : Type 0} (v : Setting D) (s : RunState D) (r : Ran D) (round : Round) (y : ScriptState) (documents : Documents) (b : Bool) → r.settled.spool.dead ≡ b → IsRan v s r → GoesFor v r documents → r.result ≡ Ok round → IsQuietState r.settled y
    → IsPlayed (round_of v.place documents r.settled.spool.state r.settled.slots y.told) r.settled.spool.state r.next round
round_from v s r round y documents true is h goes ok quiet = absurd (let e = (subst (λ b. IsRoundWith v.device v.place r.settled b r) is h.round).0.0 in cc)
round_from v s r round y documents false is h goes ok quiet = ⊎_elim
    (λ unbegun. absurd (let e = unbegun.0.0 in cc))
    (λ made. made_played v r.settled r round y.told documents made.0 ok quiet.telling.told quiet.rest (goes made.0 made.2) (h.finished y.told quiet.telling.told quiet.rest) h.rest)
    (subst (λ b. IsRoundWith v.device v.place r.settled b r) is h.round)

round_played : {D : Type 0} (finish : FinishLaw) (v : Setting D) (s : RunState D) (r : Ran D) (round : Round) (x : ScriptState) (documents : Documents) → s.spool.state ≡ x.state → IsTelling s x → IsRan v s r → GoesFor v r documents → r.result ≡ Ok round
    → IsPlayed (round_of v.place documents (settled x).state (settled x).slots (settled x).told) s.spool.state r.next round
round_played {D} finish v s r round x documents e tell h goes ok =
    let y = settled x in
    let quiet = quiet_state finish s r.settled x h.settles e tell in
    let here = round_from v s r round y documents r.settled.spool.dead refl h goes ok quiet in
    let at = subst (λ m. IsPlayed (round_of v.place documents r.settled.spool.state m y.told) r.settled.spool.state r.next round) quiet.telling.slots here in
    let on = subst (λ u. IsPlayed (round_of v.place documents u y.slots y.told) r.settled.spool.state r.next round) quiet.state at in
    subst (λ (z : OpenSpool D). IsPlayed (round_of v.place documents y.state y.slots y.told) z.state r.next round) h.settles.spool on

-- ## Several rounds

-- These are the documents that were read in each of these rounds.
abbrev pub AreFor : {D : Type 0} → Setting D → (ℕ → Documents) → List (Ran D) → Type 0
AreFor v documents [] = Unit {0}
AreFor v documents (r ∷ rs) = GoesFor v r (documents 0) × AreFor v (λ k. documents (suc k)) rs

record ArePlayed {D : Type 0} (ps : List Play) (x : ScriptState) (s new : RunState D) (results : List (Result Round RoundFault)) : Type 0 where
  counts : counts_in results ≡ Ok (map counts_of ps)
  state : new.spool.state ≡ (last_script_state x ps).state
  telling : IsTelling new (last_script_state x ps)
  table : new.spool.state ≡ after_all s.spool.state (flat_map (λ p. p.events) ps)

ok_rest : (round : Round) (rest : Result (List Round) RoundFault) → IsOk (with_counts (Ok round) rest) → IsOk rest
ok_rest round (Ok rounds) h = h
ok_rest round (Err fault) h = h

-- The rounds after the first, as plays of Script.
abbrev PlayRest : {D : Type 0} (v : Setting D) (documents : ℕ → Documents) (n : ℕ) (s new : RunState D) (rs : List (Ran D)) → Type 0
PlayRest v documents n s new rs = (y : ScriptState) → s.spool.state ≡ y.state → IsTelling s y → AreRan v s rs new → AreAll n (results_of rs) → IsOk (counts_in (results_of rs)) → ArePlayed (rounds_of v.place documents n y) y s new (results_of rs)

-- The first round, and the rounds after it.
both_played : {D : Type 0} (p : Play) (ps : List Play) (x : ScriptState) (s mid new : RunState D) (round : Round) (results : List (Result Round RoundFault)) → IsPlayed p s.spool.state mid round → ArePlayed ps (script_state_after p) mid new results → ArePlayed (p ∷ ps) x s new (Ok round ∷ results)
both_played p ps x s mid new round results one more = record {
  counts = ap (with_counts (Ok round)) more.counts ∙ ap (λ (c : Round). Ok (c ∷ map counts_of ps)) one.counts;
  state = more.state;
  telling = more.telling;
  table = more.table ∙ ap (λ y. after_all y (flat_map (λ (q : Play). q.events) ps)) one.table ∙ sym (after_both s.spool.state p.events (flat_map (λ (q : Play). q.events) ps));
}

none_more : {D : Type 0} (p : Play) (new : RunState D) → new.spool.state ≡ p.state → IsTelling new (script_state_after p) → ArePlayed [] (script_state_after p) new new []
none_more p new state telling = record { counts = refl; state = state; telling = telling; table = refl }

-- By whether the first round was idle.
rest_played : {D : Type 0} (v : Setting D) (documents : ℕ → Documents) (n : ℕ) (x : ScriptState) (s : RunState D) (r : Ran D) (rs : List (Ran D)) (new : RunState D) (round : Round) (p : Play) (b : Bool) → is_idle (counts_of p) ≡ b → IsPlayed p s.spool.state r.next round → AreRan v r.next rs new → IsRest b (results_of rs) (AreAll n (results_of rs)) → IsOk (counts_in (results_of rs)) → PlayRest v documents n r.next new rs
    → ArePlayed (p ∷ unless (is_idle (counts_of p)) (rounds_of v.place documents n (script_state_after p))) x s new (Ok round ∷ results_of rs)
rest_played v documents n x s r [] new round p true idle one more all ok rest =
    subst (λ b. ArePlayed (p ∷ unless b (rounds_of v.place documents n (script_state_after p))) x s new (Ok round ∷ [])) (sym idle)
    (subst (λ y. ArePlayed (p ∷ []) x s y (Ok round ∷ [])) (sym more) (both_played p [] x s r.next r.next round [] one (none_more p r.next one.state one.telling)))
rest_played v documents n x s r (q ∷ rs) new round p true idle one more all ok rest = absurd (omega (arith, ap length all))
rest_played v documents n x s r rs new round p false idle one more all ok rest =
    subst (λ b. ArePlayed (p ∷ unless b (rounds_of v.place documents n (script_state_after p))) x s new (Ok round ∷ results_of rs)) (sym idle)
    (both_played p (rounds_of v.place documents n (script_state_after p)) x s r.next new round (results_of rs) one (rest (script_state_after p) one.state one.telling more all ok))

-- By the result of the first round.
first_played : {D : Type 0} (finish : FinishLaw) (v : Setting D) (documents : ℕ → Documents) (n : ℕ) (x : ScriptState) (s : RunState D) (r : Ran D) (rs : List (Ran D)) (new : RunState D) (q : Result Round RoundFault) → r.result ≡ q → s.spool.state ≡ x.state → IsTelling s x → IsRan v s r → GoesFor v r (documents 0) → AreRan v r.next rs new → IsRest (is_last q) (results_of rs) (AreAll n (results_of rs)) → IsOk (with_counts q (counts_in (results_of rs))) → PlayRest v (λ k. documents (suc k)) n r.next new rs
    → ArePlayed (rounds_of v.place documents (suc n) x) x s new (q ∷ results_of rs)
first_played finish v documents n x s r rs new (Err f) is e tell h goes more all ok rest = absurd (let bad : false ≡ true = ok in cc)
first_played finish v documents n x s r rs new (Ok round) is e tell h goes more all ok rest =
    let y = settled x in
    let p = round_of v.place (documents 0) y.state y.slots y.told in
    let one : IsPlayed p s.spool.state r.next round = round_played finish v s r round x (documents 0) e tell h goes is in
    rest_played v (λ k. documents (suc k)) n x s r rs new round p (is_idle (counts_of p)) refl one more
    (subst (λ c. IsRest (is_idle c) (results_of rs) (AreAll n (results_of rs))) one.counts all)
    (ok_rest round (counts_in (results_of rs)) ok)
    rest

rounds_played : {D : Type 0} (finish : FinishLaw) (v : Setting D) (documents : ℕ → Documents) (n : ℕ) (x : ScriptState) (s new : RunState D) (rs : List (Ran D)) → s.spool.state ≡ x.state → IsTelling s x → AreRan v s rs new → AreFor v documents rs → AreAll n (results_of rs) → IsOk (counts_in (results_of rs)) → ArePlayed (rounds_of v.place documents n x) x s new (results_of rs)
rounds_played finish v documents zero x s new [] e tell h goes all ok = record {
  counts = refl;
  state = ap (λ y. y.spool.state) h ∙ e;
  telling = subst (λ y. IsTelling y x) (sym h) tell;
  table = ap (λ y. y.spool.state) h;
}
rounds_played finish v documents zero x s new (r ∷ rs) e tell h goes all ok = absurd (omega (arith, ap length all))
rounds_played finish v documents (suc n) x s new [] e tell h goes all ok = absurd all
rounds_played finish v documents (suc n) x s new (r ∷ rs) e tell h goes all ok =
    first_played finish v documents n x s r rs new r.result refl e tell h.0 goes.0 h.1 all ok (λ y f k more rest fine. rounds_played finish v (λ k. documents (suc k)) n y r.next new rs f k more goes.1 rest fine)

-- ## Steps

ran_exact : {D : Type 0} (finish : FinishLaw) (v : Setting D) (documents : ℕ → Documents) (w : Meaning) (s new : RunState D) (x : ScriptState) (rs : List (Ran D)) (text : List ℕ) → s.spool.state ≡ x.state → IsTelling s x → AreFor v documents rs → AreRunBy v w s rs new text → IsOk (counts_in (results_of rs)) → IsSaid v.place documents x w text new.spool.state × IsTelling new (after_by v.place documents x w)
ran_exact finish v documents (says said) s new x rs text e tell goes h ok = absurd h
ran_exact finish v documents (asks event line) s new x rs text e tell goes h ok = absurd h
ran_exact finish v documents lists s new x rs text e tell goes h ok = absurd h
ran_exact finish v documents (runs most line) s new x rs text e tell goes h ok =
    let all = rounds_played finish v documents most x s new rs e tell h.each goes h.all ok in
    let played = flat_map (λ (p : Play). p.events) (rounds_of v.place documents most x) in
    (record { text = h.text ∙ ap (line_told line) all.counts; state = all.state; table = λ keeps. all.table ∙ ap (λ y. after_all y played) e }, all.telling)

held_telling : {D : Type 0} (v : DiskView D) (place : Place) (documents : ℕ → Documents) (w : Meaning) (s new : RunState D) (x : ScriptState) (reply : List ℕ) → IsHeld s new → IsServedBy v s.spool w reply new.spool → IsTelling s x → IsTelling new (after_by place documents x w)
held_telling v place documents (says text) s new x reply held h tell = record { slots = held.slots ∙ tell.slots; told = held.told ∙ tell.told; tickets = tell.tickets }
held_telling v place documents (asks e line) s new x reply held h tell = record { slots = held.slots ∙ tell.slots; told = held.told ∙ tell.told; tickets = tell.tickets }
held_telling v place documents lists s new x reply held h tell = record { slots = held.slots ∙ tell.slots; told = held.told ∙ tell.told; tickets = tell.tickets }
held_telling v place documents (runs most line) s new x reply held h tell = absurd h

-- Only `round` and `drain` are answered with rounds.
runs_none_if : {D : Type 0} (v : Setting D) (s : RunState D) (rs : List (Ran D)) (new : RunState D) (text : List ℕ) (e : Event) (line : Reply → List ℕ) (said : List ℕ) (b : Bool) → AreRunBy v (cond b (asks e line) (says said)) s rs new text → ⊥
runs_none_if v s rs new text e line said true h = h
runs_none_if v s rs new text e line said false h = h

runs_none_of : {D : Type 0} (v : Setting D) (s : RunState D) (rs : List (Ran D)) (new : RunState D) (text : List ℕ) (state : State) (c : Creation) (o : Option (List ℕ)) → AreRunBy v (creating state c o) s rs new text → ⊥
runs_none_of v s rs new text state c None h = h
runs_none_of v s rs new text state c (Some options) h = h

runs_none : {D : Type 0} (v : Setting D) (s : RunState D) (rs : List (Ran D)) (new : RunState D) (text : List ℕ) (state : State) (document : List ℕ) (c : Command) → is_round c ≡ false → AreRunBy v (meaning v.mime state document c) s rs new text → ⊥
runs_none v s rs new text state document (commands.Apply e) is h = h
runs_none v s rs new text state document (commands.Queue q) is h = runs_none_if v s rs new text (events.AddQueue q) reply_line (codes "error uri\n") (is_device_uri q.uri) h
runs_none v s rs new text state document (commands.Create c) is h = runs_none_of v s rs new text state c (job_options c.options) h
runs_none v s rs new text state document (commands.Close job name) is h = h
runs_none v s rs new text state document commands.OversizedSend is h = h
runs_none v s rs new text state document commands.Jobs is h = h
runs_none v s rs new text state document commands.Queues is h = h
runs_none v s rs new text state document commands.Round is h = cc
runs_none v s rs new text state document (commands.Drain most) is h = cc
runs_none v s rs new text state document commands.Checkpoint is h = h
runs_none v s rs new text state document commands.Malformed is h = h

-- Only `checkpoint` lists the table.
lists_none_if : (e : Event) (line : Reply → List ℕ) (said : List ℕ) (b : Bool) → is_listing (cond b (asks e line) (says said)) ≡ false
lists_none_if e line said true = refl
lists_none_if e line said false = refl

lists_none_of : (state : State) (c : Creation) (o : Option (List ℕ)) → is_listing (creating state c o) ≡ false
lists_none_of state c None = refl
lists_none_of state c (Some options) = refl

pub lists_none : (m : Mime) (state : State) (document : List ℕ) (c : Command) → is_checkpoint c ≡ false → is_listing (meaning m state document c) ≡ false
lists_none m state document (commands.Apply e) is = refl
lists_none m state document (commands.Queue q) is = lists_none_if (events.AddQueue q) reply_line (codes "error uri\n") (is_device_uri q.uri)
lists_none m state document (commands.Create c) is = lists_none_of state c (job_options c.options)
lists_none m state document (commands.Close job name) is = refl
lists_none m state document commands.OversizedSend is = refl
lists_none m state document commands.Jobs is = refl
lists_none m state document commands.Queues is = refl
lists_none m state document commands.Round is = refl
lists_none m state document (commands.Drain most) is = refl
lists_none m state document commands.Checkpoint is = is
lists_none m state document commands.Malformed is = refl

-- A command closes a job, or it means the same for any document.
pub closes_or_same : (c : Command) → ((job : ℕ) × (name : List ℕ) × (c ≡ commands.Close job name)) ⊎ ((m : Mime) (s : State) (document other : List ℕ) → meaning m s document c ≡ meaning m s other c)
closes_or_same (commands.Apply e) = inr (λ m s document other. refl)
closes_or_same (commands.Queue q) = inr (λ m s document other. refl)
closes_or_same (commands.Create c) = inr (λ m s document other. refl)
closes_or_same (commands.Close job name) = inl (job, name, refl)
closes_or_same commands.OversizedSend = inr (λ m s document other. refl)
closes_or_same commands.Jobs = inr (λ m s document other. refl)
closes_or_same commands.Queues = inr (λ m s document other. refl)
closes_or_same commands.Round = inr (λ m s document other. refl)
closes_or_same (commands.Drain most) = inr (λ m s document other. refl)
closes_or_same commands.Checkpoint = inr (λ m s document other. refl)
closes_or_same commands.Malformed = inr (λ m s document other. refl)

-- These are the documents that were read for a step.
abbrev pub IsFor : {D : Type 0} → Setting D → RunState D → CommandStep D → (ℕ → Documents) → How D → Type 0
IsFor v s t documents (answered o) =
    IsServedBy v.device s.spool (meaning v.mime s.spool.state t.document t.command) t.text t.next.spool
    → IsServedBy v.device s.spool (meaning v.mime s.spool.state (document_for (documents 0) t.command) t.command) t.text t.next.spool
IsFor v s t documents (ran rs) = AreFor v documents rs
IsFor v s t documents withheld = Unit {0}

-- A command and the documents that were read for it.
abbrev pub asked_as : Command → (ℕ → Documents) → Asked
asked_as c documents = record { command = c; documents = documents }

-- A step as Script has it.
pub record IsStepSaid {D : Type 0} (v : Setting D) (s : RunState D) (x : ScriptState) (t : CommandStep D) (documents : ℕ → Documents) : Type 0 where
  pub said : IsSaid v.place documents x (meaning_with v.mime x (documents 0) t.command) t.text t.next.spool.state
  pub slots : t.next.slots ≡ (after_command v.mime v.place x (asked_as t.command documents)).slots
  pub telling : IsTelling s x → IsTelling t.next (after_command v.mime v.place x (asked_as t.command documents))

-- A command that is not withheld has its meaning on the table.
pub plain_meaning : (m : Mime) (x : ScriptState) (slots : Slots) (document : List ℕ) (c : Command) → slots ≡ x.slots → withholds slots c ≡ false → meaning m x.state document c ≡ meaning_in m x document c
plain_meaning m x slots document c same free = sym (ap (λ b. cond b (says withheld_line) (meaning m x.state document c)) (ap (λ z. withholds z c) (sym same) ∙ free))

pub withheld_meaning : (m : Mime) (x : ScriptState) (slots : Slots) (document : List ℕ) (c : Command) → slots ≡ x.slots → withholds slots c ≡ true → says withheld_line ≡ meaning_in m x document c
withheld_meaning m x slots document c same held = sym (ap (λ b. cond b (says withheld_line) (meaning m x.state document c)) (ap (λ z. withholds z c) (sym same) ∙ held))

held_slots : {D : Type 0} (v : DiskView D) (place : Place) (documents : ℕ → Documents) (w : Meaning) (s : OpenSpool D) (x : ScriptState) (new : OpenSpool D) (reply : List ℕ) → IsServedBy v s w reply new → (after_by place documents x w).slots ≡ x.slots
held_slots v place documents (says text) s x new reply h = refl
held_slots v place documents (asks e line) s x new reply h = refl
held_slots v place documents lists s x new reply h = refl
held_slots v place documents (runs most line) s x new reply h = absurd h

-- The slots and the children's trace do not change.
held_said : {D : Type 0} (v : Setting D) (s : RunState D) (x : ScriptState) (t : CommandStep D) (documents : ℕ → Documents) → s.spool.state ≡ x.state → s.slots ≡ x.slots → IsHeld s t.next → IsServedBy v.device s.spool (meaning_with v.mime x (documents 0) t.command) t.text t.next.spool → IsStepSaid v s x t documents
held_said v s x t documents e f held h =
    let w = meaning_with v.mime x (documents 0) t.command in
    record {
      said = served_exact v.device v.place documents s.spool t.next.spool x w t.text e h;
      slots = held.slots ∙ f ∙ sym (held_slots v.device v.place documents w s.spool x t.next.spool t.text h);
      telling = held_telling v.device v.place documents w s t.next x t.text held h;
    }

answered_exact : {D : Type 0} (v : Setting D) (s : RunState D) (x : ScriptState) (t : CommandStep D) (documents : ℕ → Documents) (o : Outcome) → o ≡ served → s.spool.state ≡ x.state → s.slots ≡ x.slots → IsFor v s t documents (answered o) → IsHow v s t (answered o) → IsStepSaid v s x t documents
answered_exact v s x t documents o well e f goes how =
    let d = document_for (documents 0) t.command in
    let h : IsServedBy v.device s.spool (meaning v.mime s.spool.state t.document t.command) t.text t.next.spool = subst (λ p. IsOutcome v s.spool (event_step t p) p) well how.0 in
    let k : IsServedBy v.device s.spool (meaning v.mime x.state d t.command) t.text t.next.spool = subst (λ y. IsServedBy v.device s.spool (meaning v.mime y d t.command) t.text t.next.spool) e (goes h) in
    held_said v s x t documents e f how.1 (subst (λ w. IsServedBy v.device s.spool w t.text t.next.spool) (plain_meaning v.mime x s.slots d t.command f how.2) k)

withheld_exact : {D : Type 0} (v : Setting D) (s : RunState D) (x : ScriptState) (t : CommandStep D) (documents : ℕ → Documents) → s.spool.state ≡ x.state → s.slots ≡ x.slots → IsWithheld s t → IsStepSaid v s x t documents
withheld_exact {D} v s x t documents e f how =
    held_said v s x t documents e f (record { slots = ap (λ (c : RunState D). c.slots) how.same; told = ap (λ (c : RunState D). c.told) how.same })
    (subst (λ w. IsServedBy v.device s.spool w t.text t.next.spool) (withheld_meaning v.mime x s.slots (document_for (documents 0) t.command) t.command f how.is) (how.text, ap (λ (c : RunState D). c.spool) how.same))

-- A reply to rounds does not depend on the document that was read.
runs_same : {D : Type 0} (v : Setting D) (s : RunState D) (rs : List (Ran D)) (new : RunState D) (text : List ℕ) (state : State) (document other : List ℕ) (c : Command) → AreRunBy v (meaning v.mime state document c) s rs new text → AreRunBy v (meaning v.mime state other c) s rs new text
runs_same v s rs new text state document other c h = ⊎_elim
    (λ closes. absurd (subst (λ d. AreRunBy v (meaning v.mime state document d) s rs new text) closes.2 h))
    (λ same. subst (λ w. AreRunBy v w s rs new text) (same v.mime state document other) h)
    (closes_or_same c)

-- A command with rounds is not withheld.
pub runs_free : {D : Type 0} (v : Setting D) (s : RunState D) (rs : List (Ran D)) (new : RunState D) (text : List ℕ) (state : State) (slots : Slots) (document : List ℕ) (c : Command) → AreRunBy v (meaning v.mime state document c) s rs new text → withholds slots c ≡ false
runs_free v s rs new text state slots document (commands.Apply e) h = absurd h
runs_free v s rs new text state slots document (commands.Queue q) h = refl
runs_free v s rs new text state slots document (commands.Create c) h = refl
runs_free v s rs new text state slots document (commands.Close job name) h = refl
runs_free v s rs new text state slots document commands.OversizedSend h = refl
runs_free v s rs new text state slots document commands.Jobs h = refl
runs_free v s rs new text state slots document commands.Queues h = refl
runs_free v s rs new text state slots document commands.Round h = refl
runs_free v s rs new text state slots document (commands.Drain most) h = refl
runs_free v s rs new text state slots document commands.Checkpoint h = refl
runs_free v s rs new text state slots document commands.Malformed h = refl

ran_turn : {D : Type 0} (finish : FinishLaw) (v : Setting D) (s : RunState D) (x : ScriptState) (t : CommandStep D) (documents : ℕ → Documents) (rs : List (Ran D)) → IsOk (counts_in (results_of rs)) → s.spool.state ≡ x.state → AreFor v documents rs → AreRunBy v (meaning v.mime s.spool.state t.document t.command) s rs t.next t.text → IsTelling s x → IsStepSaid v s x t documents
ran_turn finish v s x t documents rs well e goes how tell =
    let w = meaning_with v.mime x (documents 0) t.command in
    let d = document_for (documents 0) t.command in
    let same : AreRunBy v (meaning v.mime s.spool.state d t.command) s rs t.next t.text = runs_same v s rs t.next t.text s.spool.state t.document d t.command how in
    let here : AreRunBy v (meaning v.mime x.state d t.command) s rs t.next t.text = subst (λ y. AreRunBy v (meaning v.mime y d t.command) s rs t.next t.text) e same in
    let free : withholds s.slots t.command ≡ false = runs_free v s rs t.next t.text s.spool.state s.slots t.document t.command how in
    let (said, telling) = ran_exact finish v documents w s t.next x rs t.text e tell goes (subst (λ u. AreRunBy v u s rs t.next t.text) (plain_meaning v.mime x s.slots d t.command tell.slots free) here) well in
    record { said = said; slots = telling.slots; telling = λ _. telling }

pub turn_exact : {D : Type 0} (finish : FinishLaw) (v : Setting D) (s : RunState D) (x : ScriptState) (t : CommandStep D) (documents : ℕ → Documents) (how : How D) → IsWell how → s.spool.state ≡ x.state → s.slots ≡ x.slots → IsTelling s x ⊎ (is_round t.command ≡ false) → IsFor v s t documents how → IsHow v s t how → IsStepSaid v s x t documents
turn_exact finish v s x t documents (answered o) well e f may goes how = answered_exact v s x t documents o well e f goes how
turn_exact finish v s x t documents withheld well e f may goes how = withheld_exact v s x t documents e f how
turn_exact finish v s x t documents (ran rs) well e f may goes how = ⊎_elim
    (λ tell. ran_turn finish v s x t documents rs well e goes how tell)
    (λ plain. absurd (runs_none v s rs t.next t.text s.spool.state t.document t.command plain how))
    may

-- Only `checkpoint` lists the table, in any state.
lists_none_in : (m : Mime) (x : ScriptState) (document : List ℕ) (c : Command) (b : Bool) → is_checkpoint c ≡ false → is_listing (cond b (says withheld_line) (meaning m x.state document c)) ≡ false
lists_none_in m x document c true is = refl
lists_none_in m x document c false is = lists_none m x.state document c is

-- No event raises the version.
abbrev pub VersionLaw : Type 0
VersionLaw = (s : State) (events : List Event) → (after_all s events).version ≡ s.version

abbrev pub commands_asked : List Asked → List Command
commands_asked asked = map (λ a. a.command) asked

-- Steps as Script has them.
pub record AreSaid {D : Type 0} (v : Setting D) (s : RunState D) (x : ScriptState) (ts : List (CommandStep D)) (asked : List Asked) : Type 0 where
  pub text : texts_of ts ≡ script_text v.mime v.place x asked
  pub state : (last_run_state s ts).spool.state ≡ (run_script_state v.mime v.place x asked).state
  pub table : VersionLaw → KeepVersion x.state (commands_asked asked) → (last_run_state s ts).spool.state ≡ after_all x.state (script_events v.mime v.place x asked)
  pub telling : IsTelling s x → IsTelling (last_run_state s ts) (run_script_state v.mime v.place x asked)

pub none_said : {D : Type 0} (v : Setting D) (s : RunState D) (x : ScriptState) → s.spool.state ≡ x.state → AreSaid v s x [] []
none_said v s x e = record { text = refl; state = e; table = λ law keeps. e; telling = λ tell. tell }

-- A step, and the steps after it.
pub then_said : {D : Type 0} (v : Setting D) (s : RunState D) (x : ScriptState) (t : CommandStep D) (ts : List (CommandStep D)) (documents : ℕ → Documents) (asked : List Asked) → IsStepSaid v s x t documents → AreSaid v t.next (after_command v.mime v.place x (asked_as t.command documents)) ts asked → AreSaid v s x (t ∷ ts) (asked_as t.command documents ∷ asked)
then_said v s x t ts documents asked one more =
    let a = asked_as t.command documents in
    let next = after_command v.mime v.place x a in
    let events = events_of_command v.mime v.place x a in
    let later = script_events v.mime v.place next asked in
    record {
      text = ap (λ l. l ++ texts_of ts) one.said.text ∙ ap (λ l. reply_of v.mime v.place x a ++ l) more.text;
      state = more.state;
      table = λ law keeps.
          let here : (x.state.version ≡ Two) ⊎ (is_listing (meaning_with v.mime x (documents 0) t.command) ≡ false) = ⊎_elim
          (λ newest. inl newest)
          (λ none. inr (lists_none_in v.mime x (document_for (documents 0) t.command) t.command (withholds x.slots t.command) none.0))
          keeps in
          let same : next.state ≡ after_all x.state events = sym one.said.state ∙ one.said.table here in
          let then : KeepVersion next.state (commands_asked asked) = ⊎_elim (λ newest. inl (ap (λ (z : State). z.version) same ∙ law x.state events ∙ newest)) (λ none. inr none.1) keeps in
          more.table law then ∙ ap (λ z. after_all z later) same ∙ sym (after_both x.state events later);
      telling = λ tell. more.telling (one.telling tell);
    }

-- ## With the documents that were read

rounds_read : {D : Type 0} (v : Setting D) (rs : List (Ran D)) → AreFor v (read_in rs) rs
rounds_read v [] = tt
rounds_read v (r ∷ rs) = (λ made h. h, rounds_read v rs)

pub turn_read : {D : Type 0} (v : Setting D) (s : RunState D) (t : CommandStep D) (how : How D) → IsFor v s t (read_by t.document how) how
turn_read v s t (answered o) = λ h. ⊎_elim
    (λ closes. subst (λ c. IsServedBy v.device s.spool (meaning v.mime s.spool.state (document_for (λ j. t.document) c) c) t.text t.next.spool) (sym closes.2) (subst (λ c. IsServedBy v.device s.spool (meaning v.mime s.spool.state t.document c) t.text t.next.spool) closes.2 h))
    (λ same. subst (λ w. IsServedBy v.device s.spool w t.text t.next.spool) (same v.mime s.spool.state t.document (document_for (λ j. t.document) t.command)) h)
    (closes_or_same t.command)
turn_read v s t withheld = tt
turn_read v s t (ran rs) = rounds_read v rs

turns_exact : {D : Type 0} (finish : FinishLaw) (v : Setting D) (s : RunState D) (x : ScriptState) (ts : List (CommandStep D)) → AreCommandSteps v s ts → AllServed ts → s.spool.state ≡ x.state → s.slots ≡ x.slots → IsTelling s x ⊎ HasNoRounds (commands_in ts) → AreSaid v s x ts (asked_of ts)
turns_exact finish v s x [] h k e f may = none_said v s x e
turns_exact finish v s x (t ∷ ts) h k e f may =
    let documents = read_by t.document t.how in
    let one = turn_exact finish v s x t documents t.how k.0 e f (⊎_elim (λ tell. inl tell) (λ plain. inr plain.0) may) (turn_read v s t t.how) h.0.how in
    let more = turns_exact finish v t.next (after_command v.mime v.place x (asked_as t.command documents)) ts h.1 k.1 one.said.state one.slots (⊎_elim (λ tell. inl (one.telling tell)) (λ plain. inr plain.1) may) in
    then_said v s x t ts documents (asked_of ts) one more

-- ## A run

pub script_of : {D : Type 0} (law : VersionLaw) (v : Setting D) (s s' : RunState D) (x : ScriptState) (ts : List (CommandStep D)) (asked : List Asked) (a d : Option (List ℕ)) → last_run_state s ts ≡ s' → Appends a d (texts_of ts) → AreSaid v s x ts asked → IsScript v x asked s' a d
script_of law v s s' x ts asked a d last wrote said = record {
  wrote = subst (Appends a d) said.text wrote;
  table = ap (λ y. y.spool.state) (sym last) ∙ said.state;
  fold = λ keeps. ap (λ y. y.spool.state) (sym last) ∙ said.table law keeps;
}

script_state_told : {D : Type 0} (s : RunState D) (x : ScriptState) → s.spool.state ≡ x.state → IsTelling s x → IsScriptState s x
script_state_told s x e tell = record { state = e; slots = tell.slots; told = tell.told }

-- By its steps, from each state that it may begin with.
pub exact_of : {D : Type 0} (law : VersionLaw) (v : Setting D) (s s' : RunState D) (text : List ℕ) (ts : List (CommandStep D)) (asked : ScriptState → List Asked) (a d : Option (List ℕ)) → last_run_state s ts ≡ s' → commands_in ts ≡ commands_of text → Appends a d (texts_of ts)
    → ((x : ScriptState) → s.spool.state ≡ x.state → s.slots ≡ x.slots → IsTelling s x ⊎ HasNoRounds (commands_in ts) → AreSaid v s x ts (asked x)) → IsExact v s text asked s' a d
exact_of law v s s' text ts asked a d last all wrote said = record {
  plain = λ none t. script_of law v s s' (script_state_with s t) ts (asked (script_state_with s t)) a d last wrote (said (script_state_with s t) refl refl (inr (subst HasNoRounds (sym all) none)));
  telling = λ t told has.
      let x = script_state_with s t in
      let tell : IsTelling s x = record { slots = refl; told = told; tickets = has } in
      let are = said x refl refl (inl tell) in (
        script_of law v s s' x ts (asked x) a d last wrote are,
        subst (λ y. IsScriptState y (run_script_state v.mime v.place x (asked x))) last (script_state_told (last_run_state s ts) (run_script_state v.mime v.place x (asked x)) are.state (are.telling tell)),
      );
}

pub run_exact : {D : Type 0} (law : VersionLaw) (finish : FinishLaw) (v : Setting D) (s s' : RunState D) (text : List ℕ) (ts : List (CommandStep D)) (a d : Option (List ℕ)) → Lead v s ts s' → commands_in ts ≡ commands_of text → Appends a d (texts_of ts) → AllServed ts → IsExact v s text (λ x. asked_of ts) s' a d
run_exact law finish v s s' text ts a d lead all wrote every = exact_of law v s s' text ts (λ x. asked_of ts) a d lead.last all wrote (λ x e f may. turns_exact finish v s x ts lead.legal every e f may)
