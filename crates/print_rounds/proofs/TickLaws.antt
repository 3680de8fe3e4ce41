-- A tick is a call of a StageHistory, with all its clauses.
use Rattle.std.proofs.Common.{◌≡◌, ◌⊎◌, inl, inr, ℕ, ◌+◌, ◌-◌, ◌≤◌, Bool, not, ◌&&◌, ◌||◌, true, false, cond, ◌==◌, List, [], ◌∷◌, length, map, Option, Some, None, Result, refl, sym, ap, subst, ◌∙◌, append-nil, arith}
use Rattle.std.specs.Prelude.{◌↔◌, IfSome, IsSome, IsSomeAnd}
use Rattle.std.proofs.Math.Nat.{min-le_right}
use Rattle.std.specs.FinMap as finite
use Rattle.std.proofs.lemmas.Bool.{both_ways}
use Rattle.std.proofs.lemmas.List.{length-map}
use Rattle.spool_disk.specs.Disk.{DiskView, IsLawful, LeavesOnly}
use Rattle.spool_types.specs.State.{State}
use Rattle.job_table.specs.EventFold.{after_all, AreAccepted}
use Rattle.job_table.specs.Legal.{IsLegal}
use Rattle.job_table.specs.Stages.{Key, IsIn, IsSpent}
use Rattle.spool_core.specs.Image.{HasDocuments}
use Rattle.spool_core.specs.OpenSpools.{OpenSpool}
use Rattle.filter_args.specs.declared.place.Place.{Place}
use Rattle.child_pipeline.specs.StageSlots.{Slots, FinishesFrom, IsTicketless, slot_in, with_progress}
use Rattle.child_pipeline.specs.Tickets.{HasTickets, AreKeptBy}
use Rattle.child_pipeline.specs.ChildTraces.{ChildTrace, is_in}
use Rattle.print_rounds.specs.declared.start_room.StartRoom.{StartRoom}
use Rattle.child_pipeline.specs.declared.runner.Progress.{Progress}
use Rattle.child_pipeline.specs.declared.runner.Progress.TheVariants.{Ready, Running, Ended}
use Rattle.print_rounds.specs.Choice.{busy_jobs}
use Rattle.print_rounds.specs.Counts.{counts_of, result_of, started_in, starting_fault, launching_fault, ending_fault, stages_fault, starting_events, ending_events}
use Rattle.print_rounds.specs.RunStates.{RunState, run_state, Launching, AreHanded}
use Rattle.print_rounds.specs.Finished.{AreDistinct, AllRest}
use Rattle.print_rounds.specs.StageChecks.{Dropping, IsDropped, AreDroppings, has_child, idle_slots, idle_among, is_stray, runs}
use Rattle.print_rounds.specs.Passes.{PassSteps, IsPass, IsPassBy, jobs_tended, jobs_left}
use Rattle.print_rounds.specs.StartLimits.{HasStartRoomFor, IsRoomWithin, left_by, room_within, rotated}
use Rattle.print_rounds.specs.declared.start_room.TickLimits.{TickLimits}
use Rattle.print_rounds.specs.Rounds.{HasSomeOf, HasSomeWhole, LeavesDocuments, RoundSteps, events_in, tried_in, fault_in}
use Rattle.spool_types.specs.declared.event.Event.{Event}
use Rattle.print_rounds.specs.Happenings.{IsPassThat, IsTickWith}
use Rattle.print_rounds.specs.RoundTicks.{IsTickOf, IsTickAsked, Finishing, AreFinishings, count_running}
use Rattle.print_rounds.specs.StageHistory.{keys_in, IsBegunSlot, IsHeld, IsStageCall}
use Rattle.print_rounds.specs.declared.outcome.Round.{Round}
use Rattle.print_rounds.specs.declared.outcome.RoundFault.{RoundFault}
use Rattle.print_rounds.proofs.AcceptLaws.{all_begun, or_first, or_second}
use Rattle.print_rounds.proofs.BusyLaws.{all_distinct, idle_rests, part_distinct}
use Rattle.print_rounds.proofs.CrashLaws.{IsKept, round_part, any_moment, any_whole, lasting, handed}
use Rattle.print_rounds.proofs.CountLaws.{drops_rest, few_running, idle_rest}
use Rattle.print_rounds.proofs.EndLaws.{ends_rest, get_other, get_left, turned, not_first, not_second}
use Rattle.print_rounds.proofs.FreeLaws.{get_idle}
use Rattle.print_rounds.proofs.HoldLaws.{Laws, begun_same, held_current, launches_begun, waited_begun, ends_going}
use Rattle.print_rounds.proofs.KeyLaws.{accepted_both, starts_accepted, ends_accepted}
use Rattle.print_rounds.proofs.LaunchLaws.{HasNumbers, launches_same, some_of}
use Rattle.print_rounds.proofs.PartLaws.{IsPart, starts_part, ends_part}
use Rattle.print_rounds.proofs.PrefixLaws.{after_both}
use Rattle.print_rounds.proofs.PlaceLaws.{in_turn_few, in_turn_none, in_turn_part, part_once, part_rest}
use Rattle.print_rounds.proofs.ReadLaws.{reads_state, some_handed}
use Rattle.print_rounds.proofs.RowLaws.{legal_rows}
use Rattle.print_rounds.proofs.RoundLaws.{starts_alive, reads_work, ends_alive}
use Rattle.print_rounds.proofs.TickExact.{tick_exact}
use Rattle.print_rounds.proofs.TickTickets.{TicketLaws, IsKeptTo, idle_tickets, fails_out, launches_keep, looks_keep, ends_keep, drops_keep, finishings_keep}
use Rattle.print_rounds.proofs.VersionLaws.{raised_turn}

-- No job is tended twice.
tended_distinct : {D : Type 0} (s : OpenSpool D) (slots : Slots) (b : Bool) → IsLegal s.state → AreDistinct (jobs_tended s b slots)
tended_distinct s slots true legal = tt
tended_distinct s slots false legal = part_distinct (λ j. not (is_stray s.state slots j)) (busy_jobs s.state (finite.keys s.state.queues)) (all_distinct s.state (legal_rows s.state legal))

-- ## Droppings

module _ (k : ℕ) where
  finish_same : (slots : Slots) (told : Option ChildTrace) (j : ℕ) (kept : Slots) (told' : Option ChildTrace) (p : Progress ℕ) → FinishesFrom p told slots j kept told' → (k == j) ≡ false → finite.get kept k ≡ finite.get slots k
  finish_same slots told j kept told' (Ready input) finishes other = absurd finishes
  finish_same slots told j kept told' (Running n) finishes other = ap (λ m. finite.get m k) finishes.slots ∙ get_other slots j k (with_progress (slot_in slots j) (Ended finishes.finish)) other
  finish_same slots told j kept told' (Ended finish) (same, told_same) other = ap (λ m. finite.get m k) same

  drop_same : (slots : Slots) (told : Option ChildTrace) (j : ℕ) (b : Bool) (new : Slots) (told' : Option ChildTrace) → IsDropped b slots j told new told' → (k == j) ≡ false → finite.get new k ≡ finite.get slots k
  drop_same slots told j false new told' (same, told_same) other = ap (λ m. finite.get m k) same
  drop_same slots told j true new told' (kept, finishes, gone) other = ap (λ m. finite.get m k) gone ∙ get_left kept j k other ∙ finish_same slots told j kept told' (slot_in slots j).progress finishes other

  -- The slots of other jobs are unchanged.
  drops_same : (waits : Bool) (slots : Slots) (told : Option ChildTrace) (ds : List Dropping) (new : Slots) (told' : Option ChildTrace) → AreDroppings waits slots told ds new told' → is_in k (map (λ d. d.look.job) ds) ≡ false → finite.get new k ≡ finite.get slots k
  drops_same waits slots told [] new told' (same, told_same) out = ap (λ m. finite.get m k) same
  drops_same waits slots told (d ∷ ds) new told' ((look, dropped), drops) out =
      drops_same waits d.slots d.told ds new told' drops (not_second (d.look.job == k) (is_in k (map (λ d. d.look.job) ds)) out)
      ∙ drop_same slots d.look.told d.look.job d.look.ripe d.slots d.told dropped (turned d.look.job k (not_first (d.look.job == k) (is_in k (map (λ d. d.look.job) ds)) out))

-- The slot of a held stage is no stray.
held_out : (s : State) (slots : Slots) (k : Key) → IsHeld s slots k → is_stray s slots k.job ≡ false
held_out s slots k held = ap (λ b. runs slots k.job && not b) (held_current s slots k held) ∙ no (runs slots k.job)
  where
    no : (b : Bool) → (b && false) ≡ false
    no true = refl
    no false = refl

left_out : {D : Type 0} (b : Bool) (c : RunState D) (k : Key) → IsHeld c.spool.state c.slots k → is_in k.job (jobs_left b c) ≡ false
left_out true c k held = refl
left_out false c k held = fails_out (is_stray c.spool.state c.slots) k.job (finite.keys c.slots) (held_out c.spool.state c.slots k held)

-- A held stage is held in the retained slots.
idle_begun : (s : State) (slots : Slots) (k : Key) → IsHeld s slots k → IsBegunSlot (idle_slots s slots) k
idle_begun s slots k held =
    begun_same slots (idle_slots s slots) k
    (get_idle s slots k.job ∙ ap (λ b. cond (b || has_child (finite.get slots k.job)) (finite.get slots k.job) None) (held_current s slots k held)) held.1

-- ## A tick's steps

none_handed : (documents : ℕ → List ℕ) (ts : List Launching) → map (λ t. t.job) ts ≡ [] → AreHanded documents ts
none_handed documents [] none = tt
none_handed documents (t ∷ ts) none = absurd (cc)

module _ {D : Type 0} (device : DiskView D) (laws : Laws) (tickets : TicketLaws) (place : Place) (start_room : Option StartRoom) (old new : RunState D) (steps : PassSteps D) (made : IsPass device place false start_room old steps new) (legal : IsLegal old.spool.state) where
  abbrev parts : RoundSteps D
  parts = steps.parts

  abbrev idle : Slots
  idle = idle_slots old.spool.state old.slots

  -- After the checks.
  abbrev seen : RunState D
  seen = run_state parts.read parts.slots steps.looked

  first : parts.mid.state ≡ after_all old.spool.state (starting_events old.spool parts.startings)
  first = (starts_part device old.spool parts.startings parts.mid made.starts).table

  legal_mid : IsLegal parts.mid.state
  legal_mid = subst IsLegal (sym first) (laws.legal old.spool.state (starting_events old.spool parts.startings) legal)

  numbers : HasNumbers parts.mid.state
  numbers j r there = (legal_mid.jobs j r there).id

  still : parts.read.state ≡ parts.mid.state
  still = reads_state device parts.mid parts.launchings parts.read made.reads

  last : new.spool.state ≡ after_all parts.mid.state (ending_events parts.endings)
  last = ap (λ (x : OpenSpool D). x.state) made.spool ∙ (ends_part device seen parts.endings steps.ended made.ends).table ∙ ap (λ s. after_all s (ending_events parts.endings)) still

  -- No job's stage is started twice, and none while a child runs.
  abbrev resting : List ℕ
  resting = idle_among idle (jobs_tended parts.mid parts.mid.dead idle)

  once : AreDistinct (map (λ t. t.job) parts.launchings)
  once = subst AreDistinct (sym made.launched) (part_once (rotated start_room resting) resting (in_turn_part start_room resting)
      (part_distinct (λ j. not (runs idle j)) (jobs_tended parts.mid parts.mid.dead idle) (tended_distinct parts.mid idle parts.mid.dead legal_mid)))

  rest : AllRest idle (map (λ t. t.job) parts.launchings)
  rest = subst (AllRest idle) (sym made.launched) (part_rest idle (rotated start_room resting) resting (in_turn_part start_room resting) (idle_rests idle (jobs_tended parts.mid parts.mid.dead idle)))

  few : HasStartRoomFor start_room (length parts.launchings)
  few = subst (HasStartRoomFor start_room) (ap length (sym made.launched) ∙ length-map parts.launchings (λ t. t.job)) (in_turn_few start_room resting)

  accepted : AreAccepted old.spool.state (events_in old parts)
  accepted = accepted_both old.spool.state (starting_events old.spool parts.startings) (ending_events parts.endings) (starts_accepted device old.spool parts.startings parts.mid made.starts)
      (subst (λ s. AreAccepted s (ending_events parts.endings)) (still ∙ first) (ends_accepted device seen parts.endings steps.ended made.ends))

  whole_table : new.spool.state ≡ after_all old.spool.state (events_in old parts)
  whole_table = last ∙ ap (λ s. after_all s (ending_events parts.endings)) first ∙ sym (after_both old.spool.state (starting_events old.spool parts.startings) (ending_events parts.endings))

  module _ (t : ChildTrace) (tells : old.told ≡ Some t) (has : HasTickets old.slots t) where
    launched : AreKeptBy t (started_in parts.launchings) parts.slots parts.told
    launched = launches_keep tickets place parts.mid.state numbers t idle old.told parts.launchings parts.slots parts.told made.launches rest once tells (idle_tickets old.spool.state old.slots t has)

    looked : IsKeptTo launched.now parts.slots steps.looked
    looked = looks_keep tickets launched.now false parts.slots parts.told steps.looks steps.looked made.looks launched.tells launched.tickets

    ended : IsKeptTo looked.now steps.ended.slots steps.ended.told
    ended = ends_keep tickets device looked.now seen parts.endings steps.ended made.ends looked.tells looked.tickets

    dropped : IsKeptTo ended.now new.slots new.told
    dropped = drops_keep tickets ended.now false steps.ended.slots steps.ended.told steps.droppings new.slots new.told made.drops ended.tells ended.tickets

    -- Each ticket is retained, or spent once.
    tick_keeps : AreKeptBy t (started_in parts.launchings) new.slots new.told
    tick_keeps = record { now = dropped.now; tells = dropped.tells; tickets = dropped.tickets; balanced = omega (arith, launched.balanced, looked.balanced, ended.balanced, dropped.balanced) }

    -- A stage that was held at the start is still held, or is spent.
    held_going : (k : Key) → IsHeld old.spool.state old.slots k → IsHeld parts.mid.state idle k ⊎ IsSpent parts.mid.state k
    held_going k held = elim (laws.left old.spool.state k (starting_events old.spool parts.startings) legal held.0) [
      | inl now ↦ inl (subst (λ s. IsIn s k) (sym first) now, idle_begun old.spool.state old.slots k held)
      | inr gone ↦ inr (subst (λ s. IsSpent s k) (sym first) gone)
    ]

    -- A stage that is held before the checks is held at the end, or is spent.
    going_on : (k : Key) → IsHeld parts.mid.state parts.slots k ⊎ IsSpent parts.mid.state k → IsHeld new.spool.state new.slots k ⊎ IsSpent new.spool.state k
    going_on k going = elim (ends_going device laws k seen parts.endings steps.ended made.ends (subst IsLegal (sym still) legal_mid) (subst (λ s. IsHeld s parts.slots k ⊎ IsSpent s k) (sym still) going)) [
      | inl held ↦ inl (
        subst (λ (x : OpenSpool D). IsIn x.state k) (sym made.spool) held.0,
        begun_same steps.ended.slots new.slots k
            (drops_same k.job false steps.ended.slots steps.ended.told steps.droppings new.slots new.told made.drops (ap (is_in k.job) made.left ∙ left_out parts.mid.dead steps.ended k held)) held.1,
      )
      | inr gone ↦ inr (subst (λ (x : OpenSpool D). IsSpent x.state k) (sym made.spool) gone)
    ]

    tick_turn : old.spool.dead ≡ false → IsStageCall t old (events_in old parts) new
    tick_turn alive =
        let begun = launches_begun place parts.mid.state numbers t idle old.told parts.launchings parts.slots parts.told made.launches tells in
        let same : launched.now ≡ begun.now = some_of launched.now begun.now (sym launched.tells ∙ begun.tells) in
        record {
          now = dropped.now;
          tells = dropped.tells;
          orders = begun.orders;
          added = dropped.orders ∙ ended.orders ∙ looked.orders ∙ ap (λ (u : ChildTrace). u.orders) same ∙ begun.added;
          turn = raised_turn laws old.spool.state (events_in old parts) accepted
              (IsHeld old.spool.state old.slots) (keys_in begun.orders) new.spool.state (IsHeld new.spool.state new.slots) new.spool.dead legal whole_table begun.once
              (λ k among held. elim (held_going k held) [
                | inl now ↦ begun.fresh k among now.1
                | inr gone ↦ laws.either parts.mid.state k legal_mid (begun.inside k among) gone
              ])
              (λ k among. record { first = starting_events old.spool parts.startings; rest = ending_events parts.endings; split = refl; reached = subst (λ s. IsIn s k) first (begun.inside k among) })
              (λ goes_on k some. elim some [
                | inl held ↦ going_on k (elim (held_going k held) [
                  | inl now ↦ inl (now.0, begun.kept k now.0 now.1)
                  | inr gone ↦ inr gone
                ])
                | inr among ↦ going_on k (inl (begun.inside k among, begun.begun k among))
              ]);
          after_over = λ died. absurd (both_ways _ alive died);
        }

  -- If there is no fault, the device works.
  lives_on : fault_in parts ≡ None → old.spool.dead ≡ false → new.spool.dead ≡ false
  lives_on none alive =
      let later = or_second (starting_fault parts.startings) (stages_fault parts.launchings parts.endings) none in
      let begun = all_begun device old.spool parts.startings parts.mid made.starts (or_first (starting_fault parts.startings) (stages_fault parts.launchings parts.endings) none) in
      ap (λ (x : OpenSpool D). x.dead) made.spool
      ∙ ends_alive device seen parts.endings steps.ended made.ends (or_second (launching_fault parts.launchings) (ending_fault parts.endings) later)
      (reads_work device parts.mid parts.launchings parts.read made.reads (or_first (launching_fault parts.launchings) (ending_fault parts.endings) later)
      (starts_alive device old.spool parts.startings parts.mid made.starts begun alive))

  module _ (lawful : IsLawful device) where
    part : IsPart device old.spool (tried_in old parts) (events_in old parts) new.spool
    part = subst (IsPart device old.spool (tried_in old parts) (events_in old parts)) (sym made.spool)
        (round_part device lawful old.spool parts.mid parts.startings made.starts parts.launchings parts.read made.reads parts.slots steps.looked parts.endings steps.ended made.ends)

    -- The documents that were read if the disk reports its bytes.
    own_handed : (bytes : List ℕ) (documents : ℕ → List ℕ) → device.bytes old.spool.disk ≡ Some bytes → HasDocuments old.spool.state documents bytes → AreHanded documents parts.launchings
    own_handed bytes documents is given = by_dead parts.mid.dead refl
      where
        by_dead : (b : Bool) → parts.mid.dead ≡ b → AreHanded documents parts.launchings
        by_dead true died = none_handed documents parts.launchings (made.launched ∙ in_turn_none start_room resting (ap (λ b. idle_among idle (jobs_tended parts.mid b idle)) died))
        by_dead false lives =
            handed device lawful old.spool parts.mid parts.startings made.starts parts.launchings parts.read made.reads parts.slots steps.looked parts.endings steps.ended made.ends lives bytes documents is given
            place idle parts.slots old.told parts.told made.launches

    -- No more children run than before and were started.
    more_run : count_running new.slots ≤ count_running old.slots + length parts.launchings
    more_run =
        let few = few_running old.slots new.slots (map (λ t. t.job) parts.launchings) (λ k out rests.
        drops_rest false steps.ended.slots steps.ended.told steps.droppings new.slots new.told made.drops k
        (ends_rest device seen parts.endings steps.ended made.ends k
        (λ _. subst IsTicketless (sym (launches_same place parts.mid.state numbers idle old.told parts.launchings parts.slots parts.told made.launches k out)) (idle_rest old.spool.state old.slots k rests)))) in
        let count = length-map parts.launchings (λ t. t.job) in
        omega (arith, few, count)

    most_run : (limits : Option TickLimits) → IsRoomWithin limits (count_running old.slots) start_room → IfSome limits (λ l. count_running old.slots ≤ l.most → count_running new.slots ≤ l.most)
    most_run None within = tt
    most_run (Some l) within = by_room start_room within few
      where
        by_room : (o : Option StartRoom) → IsSomeAnd o (λ p. p.count ≤ left_by l (count_running old.slots)) → HasStartRoomFor o (length parts.launchings) → count_running old.slots ≤ l.most → count_running new.slots ≤ l.most
        by_room None none fits before = absurd none
        by_room (Some p) left fits before =
            let least = min-le_right l.starts (l.most - count_running old.slots) in
            omega (arith, left, fits, before, least, more_run)

    whole_tick : (limits : Option TickLimits) → IsRoomWithin limits (count_running old.slots) start_room → IsKept device old.spool → old.spool.dead ≡ false → (IsSome old.told → (first : ℕ) × (start_room ≡ room_within limits (count_running old.slots) first None)) → (result : Result Round RoundFault) → result ≡ result_of (counts_of parts.launchings parts.endings) (fault_in parts) → (tick : IsTickOf device place limits old new result) × (tick.start_room ≡ start_room) × (tick.steps ≡ steps)
    whole_tick limits within kept alive always result answer = (
      record {
        start_room = start_room;
        within = within;
        always = always;
        few = few;
        most = most_run limits within;
        steps = steps;
        made = made;
        answer = answer;
        accepted = accepted;
        table = whole_table;
        any_moment = λ lived tells. subst (λ (x : OpenSpool D). LeavesOnly device old.spool.disk x.disk (HasSomeOf old.spool.state (tried_in old parts))) (sym made.spool)
            (any_moment device lawful old.spool parts.mid parts.startings made.starts parts.launchings parts.read made.reads parts.slots steps.looked parts.endings steps.ended made.ends kept lived tells);
        any_whole = λ lived tells documents leaves. subst (λ (x : OpenSpool D). LeavesOnly device old.spool.disk x.disk (HasSomeWhole old.spool.state documents (tried_in old parts))) (sym made.spool)
            (any_whole device lawful old.spool parts.mid parts.startings made.starts parts.launchings parts.read made.reads parts.slots steps.looked parts.endings steps.ended made.ends kept lived tells documents leaves);
        lasting = λ lives tells documents leaves. subst (LeavesDocuments device documents) (sym made.spool)
            (lasting device lawful old.spool parts.mid parts.startings made.starts parts.launchings parts.read made.reads parts.slots steps.looked parts.endings steps.ended made.ends
            (ap (λ (x : OpenSpool D). x.dead) (sym made.spool) ∙ lives) tells documents leaves);
        works = lives_on;
        all_acknowledged = part.acknowledged;
        in_hand = part.in_hand;
        tickets = tick_keeps;
        turn = λ t tells has. tick_turn t tells has alive;
        read = some_handed parts.launchings once;
        handed = own_handed;
        exact = λ fits none t documents tells has given. tick_exact device laws tickets place start_room old new steps made legal alive fits none t documents tells has given;
      },
      refl,
      refl,
    )

-- ## A tick

module _ {D : Type 0} (device : DiskView D) (lawful : IsLawful device) (laws : Laws) (tickets : TicketLaws) (place : Place) (start_room : Option StartRoom) (old new : RunState D) (result : Result Round RoundFault) (legal : IsLegal old.spool.state) where
  abbrev still_part : IsPart device old.spool [] [] old.spool
  still_part = starts_part device old.spool [] old.spool refl

  -- Nothing has changed.
  unmoved_count : (limits : Option TickLimits) → new ≡ old → IfSome limits (λ l. count_running old.slots ≤ l.most → count_running new.slots ≤ l.most)
  unmoved_count None same = tt
  unmoved_count (Some l) same = λ before. subst (λ (c : RunState D). count_running c.slots ≤ l.most) (sym same) before

  -- The pass is a tick.
  module _ (limits : Option TickLimits) (within : IsRoomWithin limits (count_running old.slots) start_room) (always : IsSome old.told → (first : ℕ) × (start_room ≡ room_within limits (count_running old.slots) first None))
      (asked : Option StartRoom → Type 0) (has : asked start_room) (kept : IsKept device old.spool) where
    by_pass : (b : Bool) → old.spool.dead ≡ b → IsPassBy device place false start_room old b new result → IsTickAsked asked device place limits old b new result
    by_pass true died pass = pass
    by_pass false alive (inl unbegun) = inl unbegun
    by_pass false alive (inr passed) =
        let whole = whole_tick device laws tickets place start_room old new passed.steps passed.made legal lawful limits within kept alive always result passed.answer in
        inr (whole.0, subst asked (sym whole.1) has)

    -- No more children run than may at once.
    pub passed_most : (b : Bool) → IsPassBy device place false start_room old b new result → IfSome limits (λ l. count_running old.slots ≤ l.most → count_running new.slots ≤ l.most)
    passed_most true pass = unmoved_count limits pass.1
    passed_most false (inl unbegun) = unmoved_count limits unbegun.1
    passed_most false (inr passed) = most_run device laws tickets place start_room old new passed.steps passed.made legal lawful limits within

    -- The same with what holds of the accepted events.
    pub that_tick : (Has Told : List Event → List (List ℕ) → Type 0) → ((es : List Event) (queues : List (List ℕ)) → Has es queues → Told es queues) → (b : Bool) → old.spool.dead ≡ b → IsPassThat Has device place false start_room old b new result → IsTickWith Told device place limits old b new result
    that_tick Has Told tells true died (answer, same, has) = (answer, same, tells [] [] has)
    that_tick Has Told tells false alive (inl (unbegun, has)) = inl (unbegun, tells [] [] has)
    that_tick Has Told tells false alive (inr (passed, has)) =
        let whole = whole_tick device laws tickets place start_room old new passed.steps passed.made legal lawful limits within kept alive always result passed.answer in
        inr (whole.0, subst (λ (steps : PassSteps D). Told (events_in old steps.parts) (map (λ t. t.queue) steps.parts.startings)) (sym whole.2) (tells (events_in old passed.steps.parts) (map (λ t. t.queue) passed.steps.parts.startings) has))

    pub passed_tick : IsPassBy device place false start_room old old.spool.dead new result → IsTickAsked asked device place limits old old.spool.dead new result
    passed_tick pass = by_pass old.spool.dead refl pass

  unmoved : new ≡ old → (device.failures old.spool.disk ≤ device.failures new.spool.disk) × (IsSome (device.bytes new.spool.disk) ↔ IsSome (device.bytes old.spool.disk))
  unmoved same = subst (λ (c : RunState D). (device.failures old.spool.disk ≤ device.failures c.spool.disk) × (IsSome (device.bytes c.spool.disk) ↔ IsSome (device.bytes old.spool.disk))) (sym same) (still_part.counted, still_part.told)

  -- Its effect on the device.
  pub passed_device : (b : Bool) → IsPassBy device place false start_room old b new result → (device.failures old.spool.disk ≤ device.failures new.spool.disk) × (IsSome (device.bytes new.spool.disk) ↔ IsSome (device.bytes old.spool.disk))
  passed_device true pass = unmoved pass.1
  passed_device false (inl unbegun) = unmoved unbegun.1
  passed_device false (inr passed) = let all = part device laws tickets place start_room old new passed.steps passed.made legal lawful in (all.counted, all.told)

-- ## Finishes alone

-- A stage that was begun stays begun.
finishings_begun : (slots : Slots) (told : Option ChildTrace) (fs : List Finishing) (new : Slots) (told' : Option ChildTrace) → AreFinishings slots told fs new told' → (k : Key) → IsBegunSlot slots k → IsBegunSlot new k
finishings_begun slots told [] new told' (same, told_same) k has = subst (λ m. IsBegunSlot m k) (sym same) has
finishings_begun slots told (f ∷ fs) new told' (finishes, others) k has =
    finishings_begun f.slots f.told fs new told' others k (waited_begun slots f.slots f.job told f.told (slot_in slots f.job).progress refl finishes k has)

-- No stage is started, and there is no event.
pub finishes_turn : {D : Type 0} (laws : Laws) (tickets : TicketLaws) (t : ChildTrace) (old new : RunState D) (fs : List Finishing) → IsLegal old.spool.state → HasTickets old.slots t → old.told ≡ Some t → AreFinishings old.slots old.told fs new.slots new.told → new.spool ≡ old.spool → IsStageCall t old [] new
finishes_turn {D} laws tickets t old new fs legal has tells finishings same =
    let kept = finishings_keep tickets t old.slots old.told fs new.slots new.told finishings tells has in
    record {
      now = kept.now;
      tells = kept.tells;
      orders = [];
      added = kept.orders ∙ sym (append-nil t.orders);
      turn = raised_turn laws old.spool.state [] tt (IsHeld old.spool.state old.slots) [] new.spool.state (IsHeld new.spool.state new.slots) new.spool.dead legal (ap (λ (x : OpenSpool D). x.state) same) tt
          (λ k among. absurd among)
          (λ k among. absurd among)
          (λ goes_on k some. elim some [
            | inl held ↦ inl (subst (λ (x : OpenSpool D). IsIn x.state k) (sym same) held.0, finishings_begun old.slots old.told fs new.slots new.told finishings k held.1)
            | inr none ↦ absurd none
          ]);
      after_over = λ died. (refl, ap (λ (x : OpenSpool D). x.dead) same ∙ died);
    }
