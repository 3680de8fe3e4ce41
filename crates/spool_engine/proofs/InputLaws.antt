-- The inputs of the stages of attempts, over the rounds and runs of one engine: the answers come in the order of the starts.
use Rattle.std.proofs.Common.{◌≡◌, inl, inr, ℕ, Bool, true, false, List, [], ◌∷◌, ◌++◌, map, Option, Some, None, Result, Ok, Err, refl, sym, ap, subst, ◌∙◌, append_assoc, append-nil}
use Rattle.std.specs.FinMap as finite
use Rattle.std.proofs.lemmas.List.{append_cancel_left, map-append}
use Rattle.spool_disk.specs.Disk.{DiskView}
use Rattle.job_table.specs.Legal.{IsLegal}
use Rattle.job_table.specs.TableCalls.{AreOnce}
use Rattle.filter_args.specs.declared.place.Place.{Place}
use Rattle.child_pipeline.specs.StageSlots.{Slots}
use Rattle.child_pipeline.specs.ChildTraces.{ChildTrace}
use Rattle.child_pipeline.specs.declared.order.ChildFault.{ChildFault}
use Rattle.child_pipeline.specs.declared.order.Finish.{Finish}
use Rattle.child_pipeline.specs.declared.order.Placed.{Placed}
use Rattle.child_pipeline.specs.declared.runner.Slot.{Slot}
use Rattle.print_rounds.specs.RunStates.{RunState}
use Rattle.print_rounds.specs.Finished.{HasNoneRunning}
use Rattle.print_rounds.specs.Inputs.{AnsweredOrder, answered, AreRight, AreKeptFrom, HandsOn}
use Rattle.print_rounds.specs.Rounds.{IsRoundOf}
use Rattle.print_rounds.specs.StageHistory.{keys_in}
use Rattle.print_rounds.proofs.InputLaws.{right_both}
use Rattle.print_rounds.specs.declared.outcome.Round.{Round}
use Rattle.print_rounds.specs.declared.outcome.RoundFault.{RoundFault}
use Rattle.spool_engine.specs.EngineCalls.{Call, round_call, tick_call, run_call, stage_call, settle_call, left_by, IsCall, AreCalls, last_by, IsNoTick, HaveNoTicks, HaveRightInput}
use Rattle.spool_engine.specs.EventSteps.{Setting}
use Rattle.spool_engine.specs.EngineRounds.{Ran, IsRoundWith, IsRan, AreRan, AreRunBy}
use Rattle.spool_engine.specs.EngineRuns.{CommandStep, How, answered as replied, ran, withheld, IsHow, AreCommandSteps, last_run_state}
use Rattle.spool_engine.specs.Script.{Meaning, says, asks, lists, runs, meaning}
use Rattle.spool_engine.proofs.SettleLaws.{empty_rests, no_tickets}
use Rattle.spool_engine.proofs.StageHistoryLaws.{Laws, IsTicketCall, IsTold, call_turn, how_turn, legal_then, quiet_after, round_turn, same_call, some_same, then_call}

-- Without orders nothing was answered.
pub answered_none : (starts : List (Result (Unit {0}) ChildFault)) (finishes : List (Result Finish ChildFault)) → answered starts finishes [] ≡ []
answered_none [] finishes = refl
answered_none (Ok done ∷ starts) finishes = refl
answered_none (Err fault ∷ starts) finishes = refl

-- The orders of a part of the work of an engine, after the earlier ones.
record AreOn {D : Type 0} (earlier : List AnsweredOrder) (t : ChildTrace) (new : RunState D) : Type 0 where
  pub now : ChildTrace
  pub tells : new.told ≡ Some now
  pub quiet : now.running ≡ []
  pub orders : List Placed
  pub added : now.orders ≡ t.orders ++ orders
  pub each : List AnsweredOrder
  pub all : map (λ x. x.order) each ≡ map (λ p. p.order) orders
  pub answers : (more : List Placed) → answered t.starts t.finishes (orders ++ more) ≡ each ++ answered now.starts now.finishes more
  pub right : AreRight earlier each
  pub kept : AreKeptFrom (earlier ++ each) new.slots
  pub rests : HasNoneRunning new.slots

module _ {D : Type 0} where
  -- No order.
  none_on : (earlier : List AnsweredOrder) (t : ChildTrace) (new : RunState D) → t.running ≡ [] → new.told ≡ Some t → AreKeptFrom earlier new.slots → HasNoneRunning new.slots → AreOn earlier t new
  none_on earlier t new quiet tells kept rests = record {
    now = t;
    tells = tells;
    quiet = quiet;
    orders = [];
    added = sym (append-nil t.orders);
    each = [];
    all = refl;
    answers = λ more. refl;
    right = tt;
    kept = subst (λ xs. AreKeptFrom xs new.slots) (sym (append-nil earlier)) kept;
    rests = rests;
  }

  same_on : (earlier : List AnsweredOrder) (t : ChildTrace) (old new : RunState D) → t.running ≡ [] → old.told ≡ Some t → AreKeptFrom earlier old.slots → HasNoneRunning old.slots → new.told ≡ old.told → new.slots ≡ old.slots → AreOn earlier t new
  same_on earlier t old new quiet tells kept rests told slots =
      none_on earlier t new quiet (told ∙ tells) (subst (AreKeptFrom earlier) (sym slots) kept) (subst HasNoneRunning (sym slots) rests)

  -- A part, followed by another.
  then_on : (earlier : List AnsweredOrder) (t : ChildTrace) (mid new : RunState D) (one : AreOn earlier t mid) → AreOn (earlier ++ one.each) one.now new → AreOn earlier t new
  then_on earlier t mid new one two = record {
    now = two.now;
    tells = two.tells;
    quiet = two.quiet;
    orders = one.orders ++ two.orders;
    added = two.added ∙ ap (λ ps. ps ++ two.orders) one.added ∙ append_assoc t.orders one.orders two.orders;
    each = one.each ++ two.each;
    all = map-append (λ (x : AnsweredOrder). x.order) one.each two.each ∙ ap (λ os. os ++ map (λ x. x.order) two.each) one.all ∙ ap (λ os. map (λ p. p.order) one.orders ++ os) two.all ∙ sym (map-append (λ (p : Placed). p.order) one.orders two.orders);
    answers = λ more.
        ap (answered t.starts t.finishes) (append_assoc one.orders two.orders more)
        ∙ one.answers (two.orders ++ more)
        ∙ ap (λ xs. one.each ++ xs) (two.answers more)
        ∙ sym (append_assoc one.each two.each (answered two.now.starts two.now.finishes more));
    right = right_both earlier one.each two.each one.right two.right;
    kept = subst (λ xs. AreKeptFrom xs new.slots) (append_assoc earlier one.each two.each) two.kept;
    rests = two.rests;
  }

-- An engine begins without slots.
pub begins_kept : (slots : Slots) → slots ≡ finite.empty → AreKeptFrom [] slots × HasNoneRunning slots
begins_kept slots none = (λ j slot there. absurd (never (finite.get slots j) slot (absent j) there), empty_rests slots none)
  where
    absent : (j : ℕ) → finite.get slots j ≡ None
    absent j = ap (λ m. finite.get m j) none ∙ finite.get-empty _ j

    never : (o : Option (Slot ℕ)) (slot : Slot ℕ) → o ≡ None → o ≡ Some slot → ⊥
    never o slot is_none is_some = cc

-- The law of each round.
abbrev pub Hands : {D : Type 0} → DiskView D → Type 0
Hands {D} device = (place : Place) (earlier : List AnsweredOrder) (t : ChildTrace) (old new : RunState D) (result : Result Round RoundFault) → IsLegal old.spool.state → old.told ≡ Some t → t.running ≡ [] → HasNoneRunning old.slots → AreKeptFrom earlier old.slots
    → (r : IsRoundOf device place old new result) → HandsOn earlier t r.steps.launchings new

module _ {D : Type 0} (laws : Laws D) (v : Setting D) (hands : Hands v.device) where
  round_on : (earlier : List AnsweredOrder) (t : ChildTrace) (old : RunState D) (r : Ran D) → IsLegal old.spool.state → old.told ≡ Some t → t.running ≡ [] → HasNoneRunning old.slots → AreKeptFrom earlier old.slots → IsRan v old r → AreOn earlier t r.next
  round_on earlier t old r legal tells quiet rests kept is = by_death old.spool.dead refl (subst (λ (c : RunState D). IsRoundWith v.device v.place c c.spool.dead r) same is.round)
    where
      -- No child runs that the round would wait for.
      same : r.settled ≡ old
      same = is.settles.same rests

      unchanged : r.next ≡ old → AreOn earlier t r.next
      unchanged is_old = same_on earlier t old r.next quiet tells kept rests (ap (λ (c : RunState D). c.told) is_old) (ap (λ (c : RunState D). c.slots) is_old)

      made_on : IsRoundOf v.device v.place old r.next r.result → AreOn earlier t r.next
      made_on made =
          let on = hands v.place earlier t old r.next r.result legal tells quiet rests kept made in
          record {
            now = on.now;
            tells = on.tells;
            quiet = quiet_after laws t v old r is (ap (λ (c : RunState D). c.told) same ∙ tells) quiet on.now on.tells;
            orders = on.orders;
            added = on.added;
            each = on.each;
            all = on.all;
            answers = on.answers;
            right = on.right;
            kept = on.kept;
            rests = on.rests;
          }

      by_death : (b : Bool) → old.spool.dead ≡ b → IsRoundWith v.device v.place old b r → AreOn earlier t r.next
      by_death true died round = unchanged round.0.1
      by_death false lives round = elim round [
        | inl unbegun ↦ unchanged unbegun.0.1
        | inr made ↦ made_on made.0
      ]

  rounds_on : (rs : List (Ran D)) (earlier : List AnsweredOrder) (t : ChildTrace) (old new : RunState D) → IsLegal old.spool.state → old.told ≡ Some t → t.running ≡ [] → HasNoneRunning old.slots → AreKeptFrom earlier old.slots → AreRan v old rs new → AreOn earlier t new
  rounds_on [] earlier t old new legal tells quiet rests kept same =
      same_on earlier t old new quiet tells kept rests (ap (λ (c : RunState D). c.told) same) (ap (λ (c : RunState D). c.slots) same)
  rounds_on (r ∷ rs) earlier t old new legal tells quiet rests kept (is, others) =
      let one = round_on earlier t old r legal tells quiet rests kept is in
      let turn = round_turn laws v t old r legal (tells, no_tickets old.slots t rests quiet) is in
      let legal_next = legal_then laws t old r.next turn.0.0 turn.0.1 in
      then_on earlier t r.next new one
      (rounds_on rs (earlier ++ one.each) one.now r.next new legal_next one.tells one.quiet one.rests one.kept others)

  meaning_on : (w : Meaning) (rs : List (Ran D)) (earlier : List AnsweredOrder) (t : ChildTrace) (old new : RunState D) (text : List ℕ) → IsLegal old.spool.state → old.told ≡ Some t → t.running ≡ [] → HasNoneRunning old.slots → AreKeptFrom earlier old.slots → AreRunBy v w old rs new text → AreOn earlier t new
  meaning_on (says said) rs earlier t old new text legal tells quiet rests kept is = absurd is
  meaning_on (asks e line) rs earlier t old new text legal tells quiet rests kept is = absurd is
  meaning_on lists rs earlier t old new text legal tells quiet rests kept is = absurd is
  meaning_on (runs most line) rs earlier t old new text legal tells quiet rests kept is = rounds_on rs earlier t old new legal tells quiet rests kept is.each

  turn_on : (earlier : List AnsweredOrder) (t : ChildTrace) (old : RunState D) (turn : CommandStep D) (how : How D) → IsLegal old.spool.state → old.told ≡ Some t → t.running ≡ [] → HasNoneRunning old.slots → AreKeptFrom earlier old.slots → IsHow v old turn how → AreOn earlier t turn.next
  turn_on earlier t old turn (replied outcome) legal tells quiet rests kept is = same_on earlier t old turn.next quiet tells kept rests is.1.told is.1.slots
  turn_on earlier t old turn withheld legal tells quiet rests kept is = same_on earlier t old turn.next quiet tells kept rests (ap (λ (c : RunState D). c.told) is.same) (ap (λ (c : RunState D). c.slots) is.same)
  turn_on earlier t old turn (ran rs) legal tells quiet rests kept is = meaning_on (meaning v.mime old.spool.state turn.document turn.command) rs earlier t old turn.next turn.text legal tells quiet rests kept is

  turns_on : (turns : List (CommandStep D)) (earlier : List AnsweredOrder) (t : ChildTrace) (old : RunState D) → IsLegal old.spool.state → old.told ≡ Some t → t.running ≡ [] → HasNoneRunning old.slots → AreKeptFrom earlier old.slots → AreCommandSteps v old turns → AreOn earlier t (last_run_state old turns)
  turns_on [] earlier t old legal tells quiet rests kept are = none_on earlier t old quiet tells kept rests
  turns_on (turn ∷ turns) earlier t old legal tells quiet rests kept (is, others) =
      let one = turn_on earlier t old turn turn.how legal tells quiet rests kept is.how in
      let call = how_turn laws v t old turn legal (tells, no_tickets old.slots t rests quiet) is.how in
      let legal_next = legal_then laws t old turn.next call.0.0 call.0.1 in
      then_on earlier t turn.next (last_run_state turn.next turns) one (turns_on turns (earlier ++ one.each) one.now turn.next legal_next one.tells one.quiet one.rests one.kept others)

  call_on : (c : Call D) (earlier : List AnsweredOrder) (t : ChildTrace) (old : RunState D) → IsNoTick c → IsLegal old.spool.state → old.told ≡ Some t → t.running ≡ [] → HasNoneRunning old.slots → AreKeptFrom earlier old.slots → IsCall v old c → AreOn earlier t (left_by old c)
  call_on (round_call r) earlier t old no_tick legal tells quiet rests kept (both, is) = round_on earlier t old r legal tells quiet rests kept is
  call_on (tick_call k) earlier t old no_tick legal tells quiet rests kept is = absurd no_tick
  call_on (run_call turns) earlier t old no_tick legal tells quiet rests kept (both, are) = turns_on turns earlier t old legal tells quiet rests kept are
  call_on (stage_call turn) earlier t old no_tick legal tells quiet rests kept is = same_on earlier t old turn.next quiet tells kept rests is.held.told is.held.slots
  call_on (settle_call next) earlier t old no_tick legal tells quiet rests kept is = same_on earlier t old next quiet tells kept rests is.held.told is.held.slots

  call_legal : (c : Call D) (t : ChildTrace) (old : RunState D) → IsLegal old.spool.state → old.told ≡ Some t → t.running ≡ [] → HasNoneRunning old.slots → IsCall v old c → IsLegal (left_by old c).spool.state
  call_legal c t old legal tells quiet rests is =
      let one = call_turn laws v t old c legal (tells, no_tickets old.slots t rests quiet) is in
      legal_then laws t old (left_by old c) one.0 one.1

  calls_on : (calls : List (Call D)) (earlier : List AnsweredOrder) (t : ChildTrace) (old : RunState D) → HaveNoTicks calls → IsLegal old.spool.state → old.told ≡ Some t → t.running ≡ [] → HasNoneRunning old.slots → AreKeptFrom earlier old.slots → AreCalls v old calls → AreOn earlier t (last_by old calls)
  calls_on [] earlier t old no_ticks legal tells quiet rests kept are = none_on earlier t old quiet tells kept rests
  calls_on (c ∷ cs) earlier t old no_ticks legal tells quiet rests kept (is, others) =
      let one = call_on c earlier t old no_ticks.0 legal tells quiet rests kept is in
      let legal_next = call_legal c t old legal tells quiet rests is in
      then_on earlier t (left_by old c) (last_by (left_by old c) cs) one (calls_on cs (earlier ++ one.each) one.now (left_by old c) no_ticks.1 legal_next one.tells one.quiet one.rests one.kept others)

  -- The calls are one call of a StageHistory.
  calls_turn : (calls : List (Call D)) (t : ChildTrace) (old : RunState D) → IsLegal old.spool.state → IsTold t old → AreCalls v old calls → IsTicketCall t old (last_by old calls)
  calls_turn [] t old legal tells are = same_call laws t old legal tells
  calls_turn (c ∷ cs) t old legal tells (is, others) =
      let one = call_turn laws v t old c legal tells is in
      let next = left_by old c in
      then_call laws t old next (last_by next cs) one (calls_turn cs one.1.now next (legal_then laws t old next one.0 one.1) (one.1.tells, one.2) others)

  pub later_right : (s : RunState D) (calls : List (Call D)) (t : ChildTrace) → HaveNoTicks calls → IsLegal s.spool.state → s.slots ≡ finite.empty → s.told ≡ Some t → t.running ≡ [] → AreCalls v s calls → (now : ChildTrace) × ((last_by s calls).told ≡ Some now) × HaveRightInput t now
  later_right s calls t no_ticks legal none tells quiet are =
      let begins = begins_kept s.slots none in
      let on = calls_on calls [] t s no_ticks legal tells quiet begins.1 begins.0 are in
      let turn = (calls_turn calls t s legal (tells, no_tickets s.slots t begins.1 quiet) are).1 in
      let same_now : turn.now ≡ on.now = some_same turn.now on.now (sym turn.tells ∙ on.tells) in
      let same_orders : turn.orders ≡ on.orders = append_cancel_left t.orders turn.orders on.orders (sym turn.added ∙ ap (λ (u : ChildTrace). u.orders) same_now ∙ on.added) in
      let same : answered t.starts t.finishes on.orders ≡ on.each =
      ap (answered t.starts t.finishes) (sym (append-nil on.orders)) ∙ on.answers [] ∙ ap (λ xs. on.each ++ xs) (answered_none on.now.starts on.now.finishes) ∙ append-nil on.each in (
        on.now,
        on.tells,
        record {
          orders = on.orders;
          added = on.added;
          all = ap (map (λ x. x.order)) same ∙ on.all;
          once = subst (λ ps. AreOnce (keys_in ps)) same_orders turn.turn.distinct;
          right = subst (AreRight []) (sym same) on.right;
        },
      )
