-- The inputs of the stages of attempts, over rounds, ticks and runs of one engine.
use Rattle.std.proofs.Common.{◌≡◌, ◌⊎◌, inl, inr, ℕ, Bool, true, false, List, [], ◌∷◌, ◌++◌, map, Option, Some, Result, refl, sym, ap, subst, ◌∙◌, append_assoc, append-nil}
use Rattle.std.specs.Prelude.{IsSome}
use Rattle.std.specs.FinMap as finite
use Rattle.std.proofs.lemmas.Bool.{both_ways}
use Rattle.std.proofs.lemmas.List.{append_cancel_left}
use Rattle.spool_disk.specs.Disk.{DiskView, IsLawful}
use Rattle.job_table.specs.Legal.{IsLegal}
use Rattle.spool_core.specs.Image.{HasDocuments}
use Rattle.spool_core.specs.OpenSpools.{OpenSpool, IsSettled as NoneStaged}
use Rattle.filter_args.specs.declared.place.Place.{Place}
use Rattle.child_pipeline.specs.StageSlots.{IsTicketless, Slots}
use Rattle.child_pipeline.specs.Tickets.{HasTickets}
use Rattle.child_pipeline.specs.ChildTraces.{ChildTrace}
use Rattle.child_pipeline.specs.declared.order.Placed.{Placed}
use Rattle.print_rounds.specs.RunStates.{RunState}
use Rattle.print_rounds.specs.Finished.{HasNoneRunning}
use Rattle.print_rounds.specs.TickInputs.{RunTheirStages, TickHandsOn, FinishesHandOn, answers_in, finished_in}
use Rattle.print_rounds.specs.Inputs.{AnsweredOrder, answered, AreRight, HaveDocuments, AreKeptFrom}
use Rattle.print_rounds.specs.Rounds.{IsRoundOf, LeavesDocuments}
use Rattle.print_rounds.specs.RoundTicks.{AreFinishings, Finishing, IsTickOf}
use Rattle.print_rounds.specs.declared.start_room.TickLimits.{TickLimits}
use Rattle.print_rounds.specs.declared.outcome.Round.{Round}
use Rattle.print_rounds.specs.declared.outcome.RoundFault.{RoundFault}
use Rattle.print_rounds.proofs.InputLaws.{documents_both}
use Rattle.spool_engine.specs.StagedSteps.{IsStagedStep, SettlesTo, ShowsDocuments}
use Rattle.spool_engine.specs.EngineCalls.{Call, round_call, tick_call, run_call, stage_call, settle_call, left_by, IsCall, AreCalls, HandsDocuments, StepsHandDocuments, CallHandsDocuments, documents_by, CallsHandDocuments}
use Rattle.spool_engine.specs.EventSteps.{Setting}
use Rattle.spool_engine.specs.EngineInputs.{AddOrders, IsRoundRight, IsTickRight, AreRoundsRight, IsHowRight, AreStepsRight, IsCallRight, AreCallsRight}
use Rattle.spool_engine.specs.EngineRounds.{Ran, IsRoundWith, IsRan, AreRan, AreRunBy}
use Rattle.spool_engine.specs.EngineRuns.{CommandStep, How, answered as replied, ran, withheld, IsHeld, IsHow, AreCommandSteps, documents_left, last_run_state, last_documents}
use Rattle.spool_engine.specs.Script.{Documents, Meaning, says, asks, lists, runs, meaning}
use Rattle.spool_engine.specs.EngineTicks.{Ticked, IsTickWith, IsTicked}
use Rattle.spool_engine.proofs.EventLaws.{has_bytes, told_documents}
use Rattle.spool_engine.proofs.InputLaws.{Hands, answered_none, begins_kept}
use Rattle.spool_engine.proofs.SettleLaws.{no_tickets, told_same}
use Rattle.spool_engine.proofs.StagingLaws.{leaves_shown, shows_left}
use Rattle.spool_engine.proofs.StageHistoryLaws.{Laws, how_turn, legal_then, quiet_after, round_turn, tick_turn}

-- The laws of each tick, and of waiting for children.
pub record TickHands {D : Type 0} (device : DiskView D) : Type 0 where
  pub one : (place : Place) (limits : Option TickLimits) (earlier : List AnsweredOrder) (t : ChildTrace) (old new : RunState D) (result : Result Round RoundFault) → IsLegal old.spool.state → old.told ≡ Some t → HasTickets old.slots t → AreKeptFrom earlier old.slots → RunTheirStages t.orders old.slots
      → (r : IsTickOf device place limits old new result) → TickHandsOn earlier t old r.steps new
  pub finishes : (earlier : List AnsweredOrder) (t : ChildTrace) (slots : Slots) (told : Option ChildTrace) (fs : List Finishing) (new : Slots) (told_then : Option ChildTrace) → told ≡ Some t → HasTickets slots t → AreKeptFrom earlier slots → RunTheirStages t.orders slots
      → AreFinishings slots told fs new told_then → FinishesHandOn earlier t slots told fs new told_then

-- The device has failed, or its disk reports its bytes and a crash leaves these documents.
abbrev IsKnown : {D : Type 0} → Setting D → Documents → RunState D → Type 0
IsKnown v documents s = (s.spool.dead ≡ true) ⊎ (IsSome (v.device.bytes s.spool.disk) × LeavesDocuments v.device documents s.spool)

-- The run state after these answers: the slots store their outputs, the running children run the stages of their slots, and the slots have
-- the tickets.
record GoesOn {D : Type 0} (earlier : List AnsweredOrder) (t : ChildTrace) (s : RunState D) : Type 0 where
  pub legal : IsLegal s.spool.state
  pub tells : s.told ≡ Some t
  pub has : HasTickets s.slots t
  pub kept : AreKeptFrom earlier s.slots
  pub run : RunTheirStages t.orders s.slots

-- A part of the work of an engine: its orders, their documents if these are known, and the run state after it.
record IsPart {D : Type 0} (earlier : List AnsweredOrder) (old : RunState D) (Known : Type 0) (documents : Documents) (new : RunState D) : Type 0 where
  pub adds : AddOrders old new
  pub known : Known → HaveDocuments documents adds.orders
  pub goes : GoesOn earlier adds.now new

-- If no child runs, each running child runs the stage of its slot.
none_run : (orders : List Placed) (slots : Slots) → HasNoneRunning slots → RunTheirStages orders slots
none_run orders slots rest = λ j n slot there runs. absurd (subst IsTicketless there (rest j) n runs)

module _ {D : Type 0} where
  -- Nothing is ordered.
  same_part : (earlier : List AnsweredOrder) (t : ChildTrace) (old : RunState D) (Known : Type 0) (documents : Documents) (new : RunState D) → GoesOn earlier t old → new.told ≡ old.told → new.slots ≡ old.slots → IsLegal new.spool.state → IsPart earlier old Known documents new
  same_part earlier t old Known documents new goes told slots legal = record {
    adds = record { t = t; before = goes.tells; now = t; after = told ∙ goes.tells; orders = []; added = sym (append-nil t.orders) };
    known = λ is. tt;
    goes = record {
      legal = legal;
      tells = told ∙ goes.tells;
      has = subst (λ m. HasTickets m t) (sym slots) goes.has;
      kept = subst (AreKeptFrom earlier) (sym slots) goes.kept;
      run = subst (RunTheirStages t.orders) (sym slots) goes.run;
    };
  }

  -- A part, followed by another.
  then_part : (here there : List AnsweredOrder) (old mid new : RunState D) (Known Further : Type 0) (documents : Documents) → IsPart here old Known documents mid → (Known → Further) → IsPart there mid Further documents new → IsPart there old Known documents new
  then_part here there old mid new Known Further documents one knows two =
      let same : two.adds.t ≡ one.adds.now = told_same two.adds.t one.adds.now (sym two.adds.before ∙ one.adds.after) in
      record {
        adds = record {
          t = one.adds.t;
          before = one.adds.before;
          now = two.adds.now;
          after = two.adds.after;
          orders = one.adds.orders ++ two.adds.orders;
          added = two.adds.added ∙ ap (λ (u : ChildTrace). u.orders ++ two.adds.orders) same ∙ ap (λ ps. ps ++ two.adds.orders) one.adds.added ∙ append_assoc one.adds.t.orders one.adds.orders two.adds.orders;
        };
        known = λ is. documents_both documents one.adds.orders two.adds.orders (one.known is) (two.known (knows is));
        goes = two.goes;
      }

  -- The orders of a part are the new ones.
  hands_part : (earlier : List AnsweredOrder) (old : RunState D) (Known : Type 0) (documents : Documents) (new : RunState D) → IsPart earlier old Known documents new → Known → HandsDocuments documents old new
  hands_part earlier old Known documents new part is first now orders tells tells' added =
      let same_first : first ≡ part.adds.t = told_same first part.adds.t (sym tells ∙ part.adds.before) in
      let same_now : now ≡ part.adds.now = told_same now part.adds.now (sym tells' ∙ part.adds.after) in
      let split : part.adds.t.orders ++ part.adds.orders ≡ part.adds.t.orders ++ orders = sym part.adds.added ∙ ap (λ (u : ChildTrace). u.orders) (sym same_now) ∙ added ∙ ap (λ (u : ChildTrace). u.orders ++ orders) same_first in
      subst (HaveDocuments documents) (append_cancel_left part.adds.t.orders part.adds.orders orders split) (part.known is)

  -- The same after an equal list of answers.
  renamed_part : (earlier others : List AnsweredOrder) (old : RunState D) (Known : Type 0) (documents : Documents) (new : RunState D) → earlier ≡ others → IsPart earlier old Known documents new → IsPart others old Known documents new
  renamed_part earlier others old Known documents new same part = subst (λ xs. IsPart xs old Known documents new) same part

module _ {D : Type 0} (laws : Laws D) (v : Setting D) (lawful : IsLawful v.device) (hands : Hands v.device) (ticks : TickHands v.device) where
  -- ## A round

  -- A round as a part, after earlier answers.
  abbrev IsRoundOn : List AnsweredOrder → RunState D → Ran D → Documents → Type 0
  IsRoundOn earlier s r documents = (answers : List AnsweredOrder) × IsRoundRight earlier s r answers × IsPart (earlier ++ answers) s (IsKnown v documents s) documents r.next

  round_on : (documents : Documents) (earlier : List AnsweredOrder) (t : ChildTrace) (s : RunState D) (r : Ran D) → GoesOn earlier t s → IsRan v s r → IsRoundOn earlier s r documents
  round_on documents earlier t s r goes is = by_death r.settled.spool.dead refl is.round
    where
      fs : List Finishing
      fs = is.settles.steps.0

      steps : AreFinishings s.slots s.told fs r.settled.slots r.settled.told
      steps = is.settles.steps.1

      ys : List AnsweredOrder
      ys = finished_in s.slots s.told fs

      waited : FinishesHandOn earlier t s.slots s.told fs r.settled.slots r.settled.told
      waited = ticks.finishes earlier t s.slots s.told fs r.settled.slots r.settled.told goes.tells goes.has goes.kept goes.run steps

      quiet : waited.now.running ≡ []
      quiet =
          let off = is.settles.finished t goes.tells goes.has in
          ap (λ (u : ChildTrace). u.running) (told_same waited.now off.now (sym waited.tells ∙ off.tells)) ∙ off.none

      same : r.settled.spool ≡ s.spool
      same = is.settles.spool

      legal : IsLegal r.settled.spool.state
      legal = subst (λ (x : OpenSpool D). IsLegal x.state) (sym same) goes.legal

      legal_next : IsLegal r.next.spool.state
      legal_next = let one = round_turn laws v t s r goes.legal (goes.tells, goes.has) is in legal_then laws t s r.next one.0.0 one.0.1

      none : answered waited.now.starts waited.now.finishes [] ≡ []
      none = answered_none waited.now.starts waited.now.finishes

      unchanged : r.next ≡ r.settled → IsRoundOn earlier s r documents
      unchanged is_settled =
          let told : r.next.told ≡ Some waited.now = ap (λ (c : RunState D). c.told) is_settled ∙ waited.tells in
          let adds : AddOrders s r.next = record { t = t; before = goes.tells; now = waited.now; after = told; orders = []; added = waited.orders ∙ sym (append-nil t.orders) } in (
            ys ++ [],
            record {
              waited = fs;
              jobs = is.settles.steps.2;
              waits = steps;
              adds = adds;
              between = waited.now;
              told = waited.tells;
              all = ap (map (λ x. x.order)) none;
              right = subst (AreRight (earlier ++ ys)) (sym none) tt;
              given = ap (λ xs. ys ++ xs) (sym none);
            },
            record {
              adds = adds;
              known = λ has. tt;
              goes = record {
                legal = legal_next;
                tells = told;
                has = subst (λ (c : RunState D). HasTickets c.slots waited.now) (sym is_settled) waited.tickets;
                kept = subst (λ (c : RunState D). AreKeptFrom (earlier ++ (ys ++ [])) c.slots) (sym is_settled) (subst (λ xs. AreKeptFrom (earlier ++ xs) r.settled.slots) (sym (append-nil ys)) waited.kept);
                run = subst (λ (c : RunState D). RunTheirStages waited.now.orders c.slots) (sym is_settled) waited.run;
              };
            },
          )

      made_on : r.settled.spool.dead ≡ false → IsRoundOf v.device v.place r.settled r.next r.result → IsRoundOn earlier s r documents
      made_on lives made =
          let on = hands v.place (earlier ++ ys) waited.now r.settled r.next r.result legal waited.tells quiet is.settles.rest waited.kept made in
          let each : answered waited.now.starts waited.now.finishes on.orders ≡ on.each =
          ap (answered waited.now.starts waited.now.finishes) (sym (append-nil on.orders)) ∙ on.answers [] ∙ ap (λ xs. on.each ++ xs) (answered_none on.now.starts on.now.finishes) ∙ append-nil on.each in
          let adds : AddOrders s r.next = record { t = t; before = goes.tells; now = on.now; after = on.tells; orders = on.orders; added = on.added ∙ ap (λ ps. ps ++ on.orders) waited.orders } in
          let rest = quiet_after laws waited.now v s r is waited.tells quiet on.now on.tells in (
            ys ++ on.each,
            record {
              waited = fs;
              jobs = is.settles.steps.2;
              waits = steps;
              adds = adds;
              between = waited.now;
              told = waited.tells;
              all = ap (map (λ x. x.order)) each ∙ on.all;
              right = subst (AreRight (earlier ++ ys)) (sym each) on.right;
              given = ap (λ xs. ys ++ xs) (sym each);
            },
            record {
              adds = adds;
              known = λ has. elim has [
                | inl died ↦ absurd (both_ways _ lives (ap (λ (x : OpenSpool D). x.dead) same ∙ died))
                | inr both ↦
                    let (bytes, at) = has_bytes (v.device.bytes s.spool.disk) both.0 in
                    on.documents documents (made.handed bytes documents (ap (λ (x : OpenSpool D). v.device.bytes x.disk) same ∙ at) (subst (λ (x : OpenSpool D). HasDocuments x.state documents bytes) (sym same) (told_documents v.device s.spool documents bytes lawful both.1 at)))
              ];
              goes = record {
                legal = legal_next;
                tells = on.tells;
                has = no_tickets r.next.slots on.now is.rest rest;
                kept = subst (λ xs. AreKeptFrom xs r.next.slots) (append_assoc earlier ys on.each) on.kept;
                run = none_run on.now.orders r.next.slots is.rest;
              };
            },
          )

      by_death : (b : Bool) → r.settled.spool.dead ≡ b → IsRoundWith v.device v.place r.settled b r → IsRoundOn earlier s r documents
      by_death true died round = unchanged round.0.1
      by_death false lives round = elim round [
        | inl unbegun ↦ unchanged unbegun.0.1
        | inr made ↦ made_on lives made.0
      ]

  -- After a call the same is known.
  dies_or : (documents : Documents) (old new : RunState D) → (old.spool.dead ≡ true → new.spool.dead ≡ true) → (IsSome (v.device.bytes old.spool.disk) → IsSome (v.device.bytes new.spool.disk))
      → (others : Documents) → (new.spool.dead ≡ false → IsSome (v.device.bytes old.spool.disk) → LeavesDocuments v.device documents old.spool → LeavesDocuments v.device others new.spool) → IsKnown v documents old → IsKnown v others new
  dies_or documents old new over tells others lasting has = by_death new.spool.dead refl
    where
      by_death : (b : Bool) → new.spool.dead ≡ b → IsKnown v others new
      by_death true died = inl died
      by_death false lives = elim has [
        | inl died ↦ absurd (both_ways _ lives (over died))
        | inr both ↦ inr (tells both.0, lasting lives both.0 both.1)
      ]

  round_known : (documents : Documents) (earlier : List AnsweredOrder) (t : ChildTrace) (s : RunState D) (r : Ran D) → GoesOn earlier t s → IsRan v s r → IsKnown v documents s → IsKnown v documents r.next
  round_known documents earlier t s r goes is =
      let turn = round_turn laws v t s r goes.legal (goes.tells, goes.has) is in
      dies_or documents s r.next (λ died. (turn.0.1.after_over died).1) (λ some. is.told.1 some) documents (λ lives some leaves. is.lasting lives some documents leaves)

  -- ## A tick

  abbrev IsTickOn : List AnsweredOrder → RunState D → Ticked D → Documents → Type 0
  IsTickOn earlier s k documents = (answers : List AnsweredOrder) × IsTickRight v earlier s k answers × IsPart (earlier ++ answers) s (IsKnown v documents s) documents k.next

  tick_on : (documents : Documents) (earlier : List AnsweredOrder) (t : ChildTrace) (s : RunState D) (k : Ticked D) → GoesOn earlier t s → IsTicked v s k → IsTickOn earlier s k documents
  tick_on documents earlier t s k goes is = by_death s.spool.dead refl is.tick
    where
      legal_next : IsLegal k.next.spool.state
      legal_next = let one = tick_turn laws t v s k goes.legal (goes.tells, goes.has) is in legal_then laws t s k.next one.0 one.1

      unchanged : k.next ≡ s → IsTickOn earlier s k documents
      unchanged is_old =
          let part = same_part earlier t s (IsKnown v documents s) documents k.next goes (ap (λ (c : RunState D). c.told) is_old) (ap (λ (c : RunState D). c.slots) is_old) legal_next in
          let adds : AddOrders s k.next = record { t = t; before = goes.tells; now = t; after = ap (λ (c : RunState D). c.told) is_old ∙ goes.tells; orders = []; added = sym (append-nil t.orders) } in
          ([], record { adds = adds; right = tt; given = inl (is_old, refl) }, renamed_part earlier (earlier ++ []) s (IsKnown v documents s) documents k.next (sym (append-nil earlier)) part)

      made_on : s.spool.dead ≡ false → IsTickOf v.device v.place k.limits s k.next k.result → IsTickOn earlier s k documents
      made_on lives made =
          let on = ticks.one v.place k.limits earlier t s k.next k.result goes.legal goes.tells goes.has goes.kept goes.run made in
          let adds : AddOrders s k.next = record { t = t; before = goes.tells; now = on.now; after = on.tells; orders = on.orders; added = on.added } in
          let keeps = made.tickets t goes.tells goes.has in (
            answers_in s made.steps,
            record { adds = adds; right = on.right; given = inr (made, refl) },
            record {
              adds = adds;
              known = λ has. elim has [
                | inl died ↦ absurd (both_ways _ lives died)
                | inr both ↦
                    let (bytes, at) = has_bytes (v.device.bytes s.spool.disk) both.0 in
                    on.documents documents (made.handed bytes documents at (told_documents v.device s.spool documents bytes lawful both.1 at))
              ];
              goes = record {
                legal = legal_next;
                tells = on.tells;
                has = subst (HasTickets k.next.slots) (told_same keeps.now on.now (sym keeps.tells ∙ on.tells)) keeps.tickets;
                kept = on.kept;
                run = on.run;
              };
            },
          )

      by_death : (b : Bool) → s.spool.dead ≡ b → IsTickWith v.device v.place s b k → IsTickOn earlier s k documents
      by_death true died tick = unchanged tick.0.1
      by_death false lives tick = elim tick [
        | inl unbegun ↦ unchanged unbegun.0.1
        | inr made ↦ made_on lives made.0
      ]

  tick_known : (documents : Documents) (earlier : List AnsweredOrder) (t : ChildTrace) (s : RunState D) (k : Ticked D) → GoesOn earlier t s → IsTicked v s k → IsKnown v documents s → IsKnown v documents k.next
  tick_known documents earlier t s k goes is =
      let turn = tick_turn laws t v s k goes.legal (goes.tells, goes.has) is in
      dies_or documents s k.next (λ died. (turn.1.after_over died).1) (λ some. is.told.1 some) documents (λ lives some leaves. is.lasting lives some documents leaves)

  -- ## A step

  rounds_on : (documents : Documents) (rs : List (Ran D)) (earlier : List AnsweredOrder) (t : ChildTrace) (s new : RunState D) → GoesOn earlier t s → AreRan v s rs new
      → (answers : List AnsweredOrder) × AreRoundsRight earlier s rs answers × IsPart (earlier ++ answers) s (IsKnown v documents s) documents new
  rounds_on documents [] earlier t s new goes same = (
    [],
    refl,
    renamed_part earlier (earlier ++ []) s (IsKnown v documents s) documents new (sym (append-nil earlier))
        (same_part earlier t s (IsKnown v documents s) documents new goes (ap (λ (c : RunState D). c.told) same) (ap (λ (c : RunState D). c.slots) same) (subst (λ (c : RunState D). IsLegal c.spool.state) (sym same) goes.legal)),
  )
  rounds_on documents (r ∷ rs) earlier t s new goes (is, others) =
      let (here, right, part) = round_on documents earlier t s r goes is in
      let (there, rights, parts) = rounds_on documents rs (earlier ++ here) part.adds.now r.next new part.goes others in (
        here ++ there,
        (here, there, right, rights, refl),
        renamed_part ((earlier ++ here) ++ there) (earlier ++ (here ++ there)) s (IsKnown v documents s) documents new (append_assoc earlier here there)
            (then_part (earlier ++ here) ((earlier ++ here) ++ there) s r.next new (IsKnown v documents s) (IsKnown v documents r.next) documents part (round_known documents earlier t s r goes is) parts),
      )

  abbrev IsHowOn : List AnsweredOrder → RunState D → How D → Documents → RunState D → Type 0
  IsHowOn earlier s how documents new = (answers : List AnsweredOrder) × IsHowRight earlier s how answers × IsPart (earlier ++ answers) s (IsKnown v documents s) documents new

  meaning_on : (documents : Documents) (w : Meaning) (rs : List (Ran D)) (earlier : List AnsweredOrder) (t : ChildTrace) (s new : RunState D) (text : List ℕ) → GoesOn earlier t s → AreRunBy v w s rs new text → IsHowOn earlier s (ran rs) documents new
  meaning_on documents (says said) rs earlier t s new text goes is = absurd is
  meaning_on documents (asks e line) rs earlier t s new text goes is = absurd is
  meaning_on documents lists rs earlier t s new text goes is = absurd is
  meaning_on documents (runs most line) rs earlier t s new text goes is = rounds_on documents rs earlier t s new goes is.each

  turn_on : (documents : Documents) (earlier : List AnsweredOrder) (t : ChildTrace) (s : RunState D) (turn : CommandStep D) (how : How D) → IsLegal turn.next.spool.state → GoesOn earlier t s → IsHow v s turn how → IsHowOn earlier s how documents turn.next
  turn_on documents earlier t s turn (replied outcome) legal goes is = (
    [],
    refl,
    renamed_part earlier (earlier ++ []) s (IsKnown v documents s) documents turn.next (sym (append-nil earlier)) (same_part earlier t s (IsKnown v documents s) documents turn.next goes is.1.told is.1.slots legal),
  )
  turn_on documents earlier t s turn withheld legal goes is = (
    [],
    refl,
    renamed_part earlier (earlier ++ []) s (IsKnown v documents s) documents turn.next (sym (append-nil earlier))
        (same_part earlier t s (IsKnown v documents s) documents turn.next goes (ap (λ (c : RunState D). c.told) is.same) (ap (λ (c : RunState D). c.slots) is.same) legal),
  )
  turn_on documents earlier t s turn (ran rs) legal goes is = meaning_on documents (meaning v.mime s.spool.state turn.document turn.command) rs earlier t s turn.next turn.text goes is

  -- ## A run

  -- The documents are known throughout.
  abbrev IsRunOn : List AnsweredOrder → RunState D → List (CommandStep D) → Documents → Type 0
  IsRunOn earlier s turns documents =
      (answers : List AnsweredOrder) × AreStepsRight earlier s turns answers × (t : ChildTrace) × GoesOn (earlier ++ answers) t (last_run_state s turns)
      × (IsKnown v documents s → StepsHandDocuments v.mime s documents turns × IsKnown v (last_documents v.mime s documents turns) (last_run_state s turns))

  turns_on : (documents : Documents) (turns : List (CommandStep D)) (earlier : List AnsweredOrder) (t : ChildTrace) (s : RunState D) → GoesOn earlier t s → AreCommandSteps v s turns → IsRunOn earlier s turns documents
  turns_on documents [] earlier t s goes are = ([], refl, t, subst (λ xs. GoesOn xs t s) (sym (append-nil earlier)) goes, λ has. (tt, has))
  turns_on documents (turn ∷ turns) earlier t s goes (is, others) =
      let call = how_turn laws v t s turn goes.legal (goes.tells, goes.has) is.how in
      let legal_next = legal_then laws t s turn.next call.0.0 call.0.1 in
      let (here, right, part) = turn_on documents earlier t s turn turn.how legal_next goes is.how in
      let after = documents_left v.mime s documents turn in
      let (there, rights, now, goes_then, hands_then) = turns_on after turns (earlier ++ here) part.adds.now turn.next part.goes others in
      let known : IsKnown v documents s → IsKnown v after turn.next = dies_or documents s turn.next (λ died. (call.0.1.after_over died).1) (λ some. is.told.1 some) after (λ lives some leaves. is.lasting lives some documents leaves) in (
        here ++ there,
        (here, there, right, rights, refl),
        now,
        subst (λ xs. GoesOn xs now (last_run_state turn.next turns)) (append_assoc earlier here there) goes_then,
        λ has. let (more, last) = hands_then (known has) in ((hands_part (earlier ++ here) s (IsKnown v documents s) documents turn.next part has, more), last),
      )

  -- ## Calls

  -- The documents are known as they are shown. If nothing is staged, a crash leaves them.
  abbrev IsShownKnown : Documents → RunState D → Type 0
  IsShownKnown documents s = (s.spool.dead ≡ true) ⊎ (IsSome (v.device.bytes s.spool.disk) × ShowsDocuments v.device documents s.spool × (NoneStaged s.spool → LeavesDocuments v.device documents s.spool))

  settled_known : (documents : Documents) (s : RunState D) → NoneStaged s.spool → IsShownKnown documents s → IsKnown v documents s
  settled_known documents s settled (inl died) = inl died
  settled_known documents s settled (inr (some, shows, leaves)) = inr (some, leaves settled)

  shown_known : (documents : Documents) (s : RunState D) → NoneStaged s.spool → IsKnown v documents s → IsShownKnown documents s
  shown_known documents s settled (inl died) = inl died
  shown_known documents s settled (inr (some, leaves)) = by_death s.spool.dead refl
    where
      by_death : (b : Bool) → s.spool.dead ≡ b → IsShownKnown documents s
      by_death true died = inl died
      by_death false lives = inr (some, shows_left v.device lawful documents s.spool (settled lives) leaves, λ none. leaves)

  abbrev IsCallOn : List AnsweredOrder → RunState D → Call D → Documents → Type 0
  IsCallOn earlier s c documents =
      (answers : List AnsweredOrder) × IsCallRight v earlier s c answers × (t : ChildTrace) × GoesOn (earlier ++ answers) t (left_by s c)
      × (IsShownKnown documents s → CallHandsDocuments v.mime s documents c × IsShownKnown (documents_by v.mime s documents c) (left_by s c))

  -- A call that orders nothing.
  silent_on : (earlier : List AnsweredOrder) (t : ChildTrace) (s new : RunState D) (documents : Documents) → GoesOn earlier t s → IsHeld s new → IsLegal new.spool.state → IsPart (earlier ++ []) s (Unit {0}) documents new
  silent_on earlier t s new documents goes held legal =
      renamed_part earlier (earlier ++ []) s (Unit {0}) documents new (sym (append-nil earlier)) (same_part earlier t s (Unit {0}) documents new goes held.told held.slots legal)

  staged_known : (documents : Documents) (s : RunState D) (turn : CommandStep D) → (s.spool.dead ≡ true → turn.next.spool.dead ≡ true) → IsStagedStep v s turn → IsShownKnown documents s → IsShownKnown (documents_left v.mime s documents turn) turn.next
  staged_known documents s turn over is has = by_death turn.next.spool.dead refl
    where
      by_death : (b : Bool) → turn.next.spool.dead ≡ b → IsShownKnown (documents_left v.mime s documents turn) turn.next
      by_death true died = inl died
      by_death false lives = elim has [
        | inl died ↦ absurd (both_ways _ lives (over died))
        | inr (some, shows, leaves) ↦
            let then = is.sent lives documents shows in
            inr (is.told.1 some, then, λ settled. leaves_shown v.device (documents_left v.mime s documents turn) turn.next.spool (is.told.1 some) (settled lives) (is.plain.synced lives (settled lives)) then)
      ]

  settle_known : (documents : Documents) (s next : RunState D) → SettlesTo v.device s next → IsShownKnown documents s → IsShownKnown documents next
  settle_known documents s next is has = by_death next.spool.dead refl
    where
      by_death : (b : Bool) → next.spool.dead ≡ b → IsShownKnown documents next
      by_death true died = inl died
      by_death false lives = elim has [
        | inl died ↦ absurd (both_ways _ (is.spool.lives lives) died)
        | inr (some, shows, leaves) ↦
            let then = is.spool.sent lives some documents shows in
            inr (is.spool.told.1 some, shows_left v.device lawful documents next.spool (is.spool.settled lives) then, λ settled. then)
      ]

  call_on : (documents : Documents) (c : Call D) (earlier : List AnsweredOrder) (t : ChildTrace) (s : RunState D) → GoesOn earlier t s → IsCall v s c → IsCallOn earlier s c documents
  call_on documents (round_call r) earlier t s goes (both, is) =
      let (answers, right, part) = round_on documents earlier t s r goes is in (
        answers,
        right,
        part.adds.now,
        part.goes,
        λ has.
            let known = settled_known documents s both.0 has in
            (hands_part (earlier ++ answers) s (IsKnown v documents s) documents r.next part known, shown_known documents r.next both.1 (round_known documents earlier t s r goes is known)),
      )
  call_on documents (tick_call k) earlier t s goes (both, is) =
      let (answers, right, part) = tick_on documents earlier t s k goes is in (
        answers,
        right,
        part.adds.now,
        part.goes,
        λ has.
            let known = settled_known documents s both.0 has in
            (hands_part (earlier ++ answers) s (IsKnown v documents s) documents k.next part known, shown_known documents k.next both.1 (tick_known documents earlier t s k goes is known)),
      )
  call_on documents (run_call turns) earlier t s goes (both, are) =
      let (answers, right, now, goes_then, hands_then) = turns_on documents turns earlier t s goes are in (
        answers,
        right,
        now,
        goes_then,
        λ has.
            let (more, known) = hands_then (settled_known documents s both.0 has) in
            (more, shown_known (last_documents v.mime s documents turns) (last_run_state s turns) both.1 known),
      )
  call_on documents (stage_call turn) earlier t s goes is =
      let call = how_turn laws v t s turn goes.legal (goes.tells, goes.has) is.how in
      let legal_next = legal_then laws t s turn.next call.0.0 call.0.1 in
      let part = silent_on earlier t s turn.next documents goes is.held legal_next in
      ([], refl, part.adds.now, part.goes, λ has. (hands_part (earlier ++ []) s (Unit {0}) documents turn.next part tt, staged_known documents s turn (λ died. (call.0.1.after_over died).1) is has))
  call_on documents (settle_call next) earlier t s goes is =
      let legal_next = subst IsLegal (sym is.spool.state) goes.legal in
      let part = silent_on earlier t s next documents goes is.held legal_next in
      ([], refl, part.adds.now, part.goes, λ has. (hands_part (earlier ++ []) s (Unit {0}) documents next part tt, settle_known documents s next is has))

  calls_on : (documents : Documents) (calls : List (Call D)) (earlier : List AnsweredOrder) (t : ChildTrace) (s : RunState D) → GoesOn earlier t s → AreCalls v s calls → AreCallsRight v earlier s calls × (IsShownKnown documents s → CallsHandDocuments v.mime s documents calls)
  calls_on documents [] earlier t s goes are = (tt, λ has. tt)
  calls_on documents (c ∷ cs) earlier t s goes (is, others) =
      let (answers, right, now, goes_then, first) = call_on documents c earlier t s goes is in
      let (rights, more) = calls_on (documents_by v.mime s documents c) cs (earlier ++ answers) now (left_by s c) goes_then others in
      ((answers, right, rights), λ has. let (here, known) = first has in (here, more known))

  -- An engine begins without slots.
  begins : (s : RunState D) (t : ChildTrace) → IsLegal s.spool.state → s.slots ≡ finite.empty → s.told ≡ Some t → t.running ≡ [] → GoesOn [] t s
  begins s t legal none tells quiet =
      let both = begins_kept s.slots none in
      record { legal = legal; tells = tells; has = no_tickets s.slots t both.1 quiet; kept = both.0; run = none_run t.orders s.slots both.1 }

  pub calls_right : (s : RunState D) (calls : List (Call D)) (t : ChildTrace) → IsLegal s.spool.state → s.slots ≡ finite.empty → s.told ≡ Some t → t.running ≡ [] → AreCalls v s calls → AreCallsRight v [] s calls
  calls_right s calls t legal none tells quiet are = (calls_on (λ j. []) calls [] t s (begins s t legal none tells quiet) are).0

  pub first_right : (s : RunState D) (documents : Documents) (calls : List (Call D)) (t : ChildTrace) → IsLegal s.spool.state → s.slots ≡ finite.empty → s.told ≡ Some t → t.running ≡ [] → NoneStaged s.spool → IsSome (v.device.bytes s.spool.disk) → LeavesDocuments v.device documents s.spool → AreCalls v s calls → CallsHandDocuments v.mime s documents calls
  first_right s documents calls t legal none tells quiet settled some leaves are = (calls_on documents calls [] t s (begins s t legal none tells quiet) are).1 (shown_known documents s settled (inr (some, leaves)))
