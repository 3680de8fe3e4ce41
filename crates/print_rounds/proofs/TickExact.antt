-- If nothing failed, a tick is Script's.
use Rattle.std.proofs.Common.{◌≡◌, ℕ, zero, suc, Bool, not, ◌&&◌, ◌||◌, true, false, cond, ◌==◌, List, [], ◌∷◌, length, map, Option, Some, None, refl, sym, ap, subst, ◌∙◌, arith, IsTrue}
use Rattle.std.specs.Prelude.{T}
use Rattle.std.specs.declared.cmp.Ordering.{Ordering}
use Rattle.std.specs.declared.cmp.Ordering.TheVariants.{Less, Equal, Greater}
use Rattle.std.specs.Cmp.{nat_cmp_total, eq_by_cmp_equiv, unsigned_tied, first_so, second_so}
use Rattle.std.proofs.lemmas.Bool.{eqb-true}
use Rattle.std.specs.List.{filter, Contains}
use Rattle.std.specs.Ordering.{nat_cmp, is_lt, is_eq, eq_by_cmp}
use Rattle.std.specs.Option.{option_or}
use Rattle.std.specs.FinMap as finite
use Rattle.std.specs.FinMap.Entries.{below_all}
use Rattle.spool_disk.specs.Disk.{DiskView}
use Rattle.spool_types.specs.declared.event.Event.{Event}
use Rattle.spool_types.specs.State.{State, Job, job_at}
use Rattle.spool_core.specs.OpenSpools.{OpenSpool}
use Rattle.job_table.specs.Legal.{IsLegal}
use Rattle.filter_args.specs.declared.place.Place.{Place}
use Rattle.child_pipeline.specs.StageSlots.{Slots}
use Rattle.child_pipeline.specs.Tickets.{HasTickets, AreKeptBy}
use Rattle.child_pipeline.specs.ChildTraces.{ChildTrace, is_in}
use Rattle.print_rounds.specs.declared.start_room.StartRoom.{StartRoom}
use Rattle.child_pipeline.specs.declared.runner.Slot.{Slot}
use Rattle.print_rounds.specs.Choice.{busy_jobs}
use Rattle.print_rounds.specs.Counts.{starting_events, starting_fault, stages_fault, launching_fault, ending_fault, started_in}
use Rattle.print_rounds.specs.RunStates.{RunState, run_state, Starting, AreStartings, Launching, AreEndings, AreHanded}
use Rattle.print_rounds.specs.Faultless.{AllBegun, AllTold}
use Rattle.print_rounds.specs.Finished.{AreDistinct, AllRest}
use Rattle.print_rounds.specs.StageChecks.{has_child, runs, idle_slots, is_stray, strays, free_queues, tended_jobs, idle_among, ripe_in, AreDroppings}
use Rattle.print_rounds.specs.Passes.{PassSteps, IsPass, jobs_tended, jobs_left}
use Rattle.print_rounds.specs.StartLimits.{HasStartRoomFor, rotated}
use Rattle.print_rounds.specs.Rounds.{IsScriptRound, fault_in}
use Rattle.print_rounds.specs.RoundScript.{Play, plays, play_start, play_launch, play_end, play_from, is_current, current_slots}
use Rattle.print_rounds.specs.RoundTicks.{ripe_by, looked_by, ripe_among, looked_among, play_ripe, play_tended, play_drop, drop_strays, tend_queues, tick_of}
use Rattle.print_rounds.proofs.AcceptLaws.{all_begun, all_served, or_first, or_second}
use Rattle.print_rounds.proofs.BusyLaws.{all_distinct, idle_rests, part_distinct}
use Rattle.print_rounds.proofs.CurrentLaws.{Suits, current_suit, starts_suit, launches_suit_at}
use Rattle.print_rounds.proofs.EndLaws.{not_first, not_second}
use Rattle.print_rounds.proofs.FreeLaws.{get_current, get_idle}
use Rattle.print_rounds.proofs.HoldLaws.{Laws}
use Rattle.print_rounds.proofs.LaunchLaws.{HasNumbers, some_of}
use Rattle.print_rounds.proofs.LookPlays.{looks_played, ends_played, drops_played}
use Rattle.print_rounds.proofs.PartLaws.{starts_part}
use Rattle.print_rounds.proofs.PlayLaws.{all_played, play_at}
use Rattle.print_rounds.proofs.ReadLaws.{reads_state}
use Rattle.print_rounds.proofs.ReportLaws.{play_after}
use Rattle.print_rounds.proofs.RoundLaws.{starts_alive}
use Rattle.print_rounds.proofs.PlaceLaws.{all_launched}
use Rattle.print_rounds.proofs.StartLaws.{starts_played, starts_keys}
use Rattle.print_rounds.proofs.TickTickets.{TicketLaws, idle_tickets, launches_keep, looks_keep}
use Rattle.print_rounds.proofs.ToldLaws.{SuitIn, all_told}

-- ## The rows of a legal table

true_from : (b : Bool) → T b → IsTrue b
true_from true h = refl
true_from false h = absurd h

less_or_tied : (r : Ordering) → is_eq r ≡ true → IsTrue (is_lt r) → ⊥
less_or_tied Less tied less = absurd (cc)
less_or_tied Equal tied less = absurd (cc)
less_or_tied Greater tied less = absurd (cc)

-- A row that is found after a key has another key.
found_later : (x : ℕ) (es : List (ℕ × Job)) → IsTrue (below_all nat_cmp x es) → (k : ℕ) (r : Job) → finite.find nat_cmp k es ≡ Some r → eq_by_cmp nat_cmp k x ≡ false
found_later x [] below k r there = absurd (cc)
found_later x (e ∷ es) below k r there = by_key (eq_by_cmp nat_cmp k e.0) refl (found_later x es (second_so (is_lt (nat_cmp x e.0)) (below_all nat_cmp x es) below) k r)
  where
    at : eq_by_cmp nat_cmp k e.0 ≡ true → (b : Bool) → eq_by_cmp nat_cmp k x ≡ b → b ≡ false
    at own true same =
        let one : k ≡ e.0 = eqb-true k e.0 (sym (unsigned_tied k e.0) ∙ own) in
        let other : k ≡ x = eqb-true k x (sym (unsigned_tied k x) ∙ same) in
        let tied : eq_by_cmp nat_cmp x e.0 ≡ true = ap (λ i. eq_by_cmp nat_cmp i e.0) (sym other) ∙ own in
        absurd (less_or_tied (nat_cmp x e.0) tied (first_so (is_lt (nat_cmp x e.0)) (below_all nat_cmp x es) below))
    at own false other = refl

    by_key : (b : Bool) → eq_by_cmp nat_cmp k e.0 ≡ b → (finite.find nat_cmp k es ≡ Some r → eq_by_cmp nat_cmp k x ≡ false) → eq_by_cmp nat_cmp k x ≡ false
    by_key true own rest = at own (eq_by_cmp nat_cmp k x) refl
    by_key false other rest = rest (ap (λ b. cond b (Some e.1) (finite.find nat_cmp k es)) (sym other) ∙ there)

-- A value is found at a key.
value_found : (es : List (ℕ × Job)) → IsTrue (finite.is_sorted nat_cmp es) → (r : Job) → Contains (map (λ e. e.1) es) r → (k : ℕ) × (finite.find nat_cmp k es ≡ Some r)
value_found [] sorted r (i, lt, is) = absurd (omega (arith, lt))
value_found (e ∷ es) sorted r (zero, lt, is) = (e.0, ap (λ b. cond b (Some e.1) (finite.find nat_cmp e.0 es)) ((eq_by_cmp_equiv nat_cmp_total).refl e.0) ∙ ap Some is)
value_found (e ∷ es) sorted r (suc i, lt, is) =
    let (k, there) = value_found es (second_so (below_all nat_cmp e.0 es) (finite.is_sorted nat_cmp es) sorted) r (i, omega (arith, lt), is) in
    (k, ap (λ b. cond b (Some e.1) (finite.find nat_cmp k es)) (found_later e.0 es (first_so (below_all nat_cmp e.0 es) (finite.is_sorted nat_cmp es) sorted) k r there) ∙ there)

-- Each row is found by its number.
legal_rows : (s : State) → IsLegal s → (r : Job) → Contains (finite.values s.jobs) r → job_at s r.id ≡ Some r
legal_rows s legal r there =
    let (k, found) = value_found (finite.entries s.jobs) (true_from _ (finite.entries_sorted s.jobs)) r there in
    let at : job_at s k ≡ Some r = finite.get-entries s.jobs k ∙ found in
    subst (λ i. job_at s i ≡ Some r) (sym (legal.jobs k r at).id) at

-- ## Jobs whose ends are reported

ripe_out : (slots : Slots) (t : ChildTrace) (j : ℕ) (js : List ℕ) → is_in j js ≡ false → is_in j (ripe_among slots t js) ≡ false
ripe_out slots t j [] out = refl
ripe_out slots t j (k ∷ js) out =
    by_ripe (ripe_by (runs slots k) t) (ripe_among slots (looked_by (runs slots k) t) js) (ripe_out slots (looked_by (runs slots k) t) j js (not_second (k == j) (is_in j js) out))
  where
    by_ripe : (b : Bool) (ks : List ℕ) → is_in j ks ≡ false → is_in j (cond b (k ∷ ks) ks) ≡ false
    by_ripe true ks rest = ap (λ c. c || is_in j ks) (not_first (k == j) (is_in j js) out) ∙ rest
    by_ripe false ks rest = rest

ripe_distinct : (slots : Slots) (t : ChildTrace) (js : List ℕ) → AreDistinct js → AreDistinct (ripe_among slots t js)
ripe_distinct slots t [] distinct = tt
ripe_distinct slots t (j ∷ js) (first, others) =
    let next = looked_by (runs slots j) t in
    by_ripe (ripe_by (runs slots j) t) (ripe_among slots next js) (ripe_out slots next j js first) (ripe_distinct slots next js others)
  where
    by_ripe : (b : Bool) (ks : List ℕ) → is_in j ks ≡ false → AreDistinct ks → AreDistinct (cond b (j ∷ ks) ks)
    by_ripe true ks out rest = (out, rest)
    by_ripe false ks out rest = rest

module _ {D : Type 0} (device : DiskView D) where
  ripe_suit : (s : State) (m slots : Slots) (t : ChildTrace) (js : List ℕ) → SuitIn device s m js → SuitIn device s m (ripe_among slots t js)
  ripe_suit s m slots t [] suits = tt
  ripe_suit s m slots t (j ∷ js) (first, others) = by_ripe (ripe_by (runs slots j) t) (ripe_among slots (looked_by (runs slots j) t) js) (ripe_suit s m slots (looked_by (runs slots j) t) js others)
    where
      by_ripe : (b : Bool) (ks : List ℕ) → SuitIn device s m ks → SuitIn device s m (cond b (j ∷ ks) ks)
      by_ripe true ks rest = (first, rest)
      by_ripe false ks rest = rest

  suit_on : (s : State) (m n : Slots) → ((j : ℕ) → Suits (job_at s j) (finite.get m j) → Suits (job_at s j) (finite.get n j)) → (js : List ℕ) → SuitIn device s m js → SuitIn device s n js
  suit_on s m n on [] suits = tt
  suit_on s m n on (j ∷ js) suits = (on j suits.0, suit_on s m n on js suits.1)

-- ## The slots of tended jobs are current

-- A slot that was retained and has no running child was current.
quiet_left : (b : Bool) (o : Option (Slot ℕ)) → has_child (cond (b || has_child o) o None) ≡ false → cond (b || has_child o) o None ≡ cond b o None
quiet_left true o quiet = refl
quiet_left false o quiet = by_child (has_child o) refl quiet
  where
    by_child : (c : Bool) → has_child o ≡ c → has_child (cond c o None) ≡ false → cond c o None ≡ None
    by_child true runs quiet = let both : true ≡ false = sym runs ∙ quiet in absurd (cc)
    by_child false rests quiet = refl

-- A slot with a running child is current, unless it is a stray.
running_suits : (row : Option Job) (o : Option (Slot ℕ)) → has_child o ≡ true → (has_child o && not (is_current row o)) ≡ false → Suits row o
running_suits row None runs tended = tt
running_suits row (Some slot) runs tended = by_current (is_current row (Some slot)) refl (sym (ap (λ b. b && not (is_current row (Some slot))) runs) ∙ tended)
  where
    by_current : (b : Bool) → is_current row (Some slot) ≡ b → not b ≡ false → is_current row (Some slot) ≡ true
    by_current true is tended = is
    by_current false is tended = absurd (cc)

module _ {D : Type 0} (device : DiskView D) (old : OpenSpool D) (slots : Slots) (mid : OpenSpool D) (ts : List (Starting D)) (starts : AreStartings device old ts mid) where
  tended_suits : (j : ℕ) → is_stray mid.state (idle_slots old.state slots) j ≡ false → Suits (job_at mid.state j) (finite.get (idle_slots old.state slots) j)
  tended_suits j tended = by_child (runs (idle_slots old.state slots) j) refl
    where
      idle : Slots
      idle = idle_slots old.state slots

      g : Option (Slot ℕ)
      g = finite.get slots j

      current : Bool
      current = is_current (job_at old.state j) g

      by_child : (b : Bool) → runs idle j ≡ b → Suits (job_at mid.state j) (finite.get idle j)
      by_child true is = running_suits (job_at mid.state j) (finite.get idle j) is tended
      by_child false is =
          let at = get_idle old.state slots j in
          let left : cond (current || has_child g) g None ≡ cond current g None = quiet_left current g (sym (ap has_child at) ∙ is) in
          subst (Suits (job_at mid.state j)) (sym (at ∙ left ∙ sym (get_current old.state slots j)))
          (starts_suit device old ts mid (current_slots old.state slots) starts (current_suit old.state slots) j)

  all_tended_suit : (js : List ℕ) → SuitIn device mid.state (idle_slots old.state slots) (filter (λ j. not (is_stray mid.state (idle_slots old.state slots) j)) js)
  all_tended_suit [] = tt
  all_tended_suit (j ∷ js) = by_stray (is_stray mid.state (idle_slots old.state slots) j) refl (filter (λ j. not (is_stray mid.state (idle_slots old.state slots) j)) js) (all_tended_suit js)
    where
      by_stray : (b : Bool) → is_stray mid.state (idle_slots old.state slots) j ≡ b → (ks : List ℕ) → SuitIn device mid.state (idle_slots old.state slots) ks → SuitIn device mid.state (idle_slots old.state slots) (cond (not b) (j ∷ ks) ks)
      by_stray true is ks rest = rest
      by_stray false is ks rest = (tended_suits j is, rest)

-- ## The whole

module _ {D : Type 0} (device : DiskView D) (laws : Laws) (kept : TicketLaws) (place : Place) (start_room : Option StartRoom) (old new : RunState D) (steps : PassSteps D) (made : IsPass device place false start_room old steps new) (legal : IsLegal old.spool.state) (alive : old.spool.dead ≡ false) (fits : HasStartRoomFor start_room (length (finite.keys old.spool.state.queues))) (none : fault_in steps.parts ≡ None)
    (t : ChildTrace) (documents : ℕ → List ℕ) (tells : old.told ≡ Some t) (has : HasTickets old.slots t) (handed : AreHanded documents steps.parts.launchings) where
  abbrev s : State
  s = old.spool.state

  abbrev mid : OpenSpool D
  mid = steps.parts.mid

  abbrev idle : Slots
  idle = idle_slots s old.slots

  abbrev launchings : List Launching
  launchings = steps.parts.launchings

  abbrev slots : Slots
  slots = steps.parts.slots

  abbrev events : List Event
  events = starting_events old.spool steps.parts.startings

  later : option_or (launching_fault launchings) (ending_fault steps.parts.endings) ≡ None
  later = or_second (starting_fault steps.parts.startings) (stages_fault launchings steps.parts.endings) none

  begun : AllBegun steps.parts.startings
  begun = all_begun device old.spool steps.parts.startings mid made.starts (or_first (starting_fault steps.parts.startings) (stages_fault launchings steps.parts.endings) none)

  mid_alive : mid.dead ≡ false
  mid_alive = starts_alive device old.spool steps.parts.startings mid made.starts begun alive

  legal_mid : IsLegal mid.state
  legal_mid = subst IsLegal (sym (starts_part device old.spool steps.parts.startings mid made.starts).table) (laws.legal s events legal)

  numbers : HasNumbers mid.state
  numbers j r there = (legal_mid.jobs j r there).id

  -- The tended jobs, each once, and their slots.
  abbrev js : List ℕ
  js = tended_jobs mid.state idle (finite.keys mid.state.queues)

  tended : jobs_tended mid mid.dead idle ≡ js
  tended = ap (λ b. jobs_tended mid b idle) mid_alive

  distinct : AreDistinct js
  distinct = part_distinct (λ j. not (is_stray mid.state idle j)) (busy_jobs mid.state (finite.keys mid.state.queues)) (all_distinct mid.state (legal_rows mid.state legal_mid))

  -- ### The starts of jobs

  abbrev p1 : Play
  p1 = record (play_from mid.state idle t) { events = events }

  started : plays play_start (play_from s idle t) (free_queues s idle) ≡ p1
  started =
      ap (λ names. plays play_start (play_from s idle t) names) (sym (made.queues.all fits))
      ∙ starts_played device old.spool steps.parts.startings mid made.starts (play_from s idle t) begun

  -- ### The starts of stages

  launched_are : map (λ l. l.job) launchings ≡ idle_among idle js
  launched_are = made.launched ∙ ap (λ ks. rotated start_room (idle_among idle ks)) tended
      ∙ all_launched start_room mid.state idle (finite.keys mid.state.queues) (subst (λ names. HasStartRoomFor start_room (length names)) (sym (starts_keys device old.spool steps.parts.startings mid made.starts)) fits)

  launched : AreKeptBy t (started_in launchings) slots steps.parts.told
  launched = launches_keep kept place mid.state numbers t idle old.told launchings slots steps.parts.told made.launches
      (subst (λ ks. AllRest idle ks) (sym launched_are) (idle_rests idle js))
      (subst AreDistinct (sym launched_are) (part_distinct (λ j. not (runs idle j)) js distinct))
      tells (idle_tickets s old.slots t has)

  abbrev t1 : ChildTrace
  t1 = launched.now

  abbrev p2 : Play
  p2 = play_at p1 slots t1 (started_in launchings)

  launched_play : plays (play_launch place documents) p1 (idle_among idle js) ≡ p2
  launched_play =
      let (now, tells1, played) = all_played place documents p1 numbers old.told launchings slots steps.parts.told tells made.launches (all_served launchings (or_first (launching_fault launchings) (ending_fault steps.parts.endings) later)) handed in
      ap (λ ks. plays (play_launch place documents) p1 ks) (sym launched_are)
      ∙ played
      ∙ ap (λ u. play_at p1 slots u (started_in launchings)) (some_of now t1 (sym tells1 ∙ launched.tells))

  -- ### The checks

  seen : map (λ l. l.job) steps.looks ≡ js
  seen = made.seen ∙ tended

  abbrev t2 : ChildTrace
  t2 = looked_among slots t1 js

  looked : (ripe_in steps.looks ≡ ripe_among slots t1 js) × (steps.looked ≡ Some t2)
  looked = subst (λ ks. (ripe_in steps.looks ≡ ripe_among slots t1 ks) × (steps.looked ≡ Some (looked_among slots t1 ks))) seen
      (looks_played slots t1 steps.parts.told steps.looks steps.looked launched.tells made.looks)

  looked_has : HasTickets slots t2
  looked_has =
      let keeps = looks_keep kept t1 false slots steps.parts.told steps.looks steps.looked made.looks launched.tells launched.tickets in
      subst (λ u. HasTickets slots u) (some_of keeps.now t2 (sym keeps.tells ∙ looked.1)) keeps.tickets

  abbrev p3 : Play
  p3 = record p2 { told = t2 }

  -- ### The ends

  told_are : map (λ e. e.job) steps.parts.endings ≡ ripe_among slots t1 js
  told_are = made.told ∙ looked.0

  same : steps.parts.read.state ≡ mid.state
  same = reads_state device mid launchings steps.parts.read made.reads

  suits : SuitIn device mid.state slots js
  suits = suit_on device mid.state idle slots (λ j own. launches_suit_at place mid.state numbers j idle old.told launchings slots steps.parts.told made.launches own) js
      (all_tended_suit device old.spool old.slots mid steps.parts.startings made.starts (busy_jobs mid.state (finite.keys mid.state.queues)))

  acknowledged : AllTold steps.parts.endings
  acknowledged = all_told device laws.legal (run_state steps.parts.read slots steps.looked) steps.parts.endings steps.ended made.ends (subst IsLegal (sym same) legal_mid)
      (subst (λ ks. SuitIn device steps.parts.read.state slots ks) (sym told_are) (subst (λ u. SuitIn device u slots (ripe_among slots t1 js)) (sym same) (ripe_suit device mid.state slots slots t1 js suits)))
      (subst AreDistinct (sym told_are) (ripe_distinct slots t1 js distinct))
      (or_second (launching_fault launchings) (ending_fault steps.parts.endings) later)

  ended : (t3 : ChildTrace) × (steps.ended.told ≡ Some t3) × HasTickets steps.ended.slots t3 × (plays play_end p3 (map (λ e. e.job) steps.parts.endings) ≡ play_after device p3 steps.parts.endings steps.ended t3)
  ended = ends_played kept device p3 steps.parts.read steps.parts.endings steps.ended same looked_has
      (subst (λ o. AreEndings device (run_state steps.parts.read slots o) steps.parts.endings steps.ended) looked.1 made.ends) acknowledged

  abbrev p4 : Play
  p4 = play_after device p3 steps.parts.endings steps.ended ended.0

  -- ### The droppings

  left : map (λ d. d.look.job) steps.droppings ≡ strays p4.state p4.slots
  left = made.left ∙ ap (λ b. jobs_left b steps.ended) mid_alive

  dropped : (t4 : ChildTrace) × (new.told ≡ Some t4) × (plays play_drop p4 (map (λ d. d.look.job) steps.droppings) ≡ record p4 { slots = new.slots; told = t4 })
  dropped = drops_played kept p4 steps.droppings new.slots new.told ended.2 (subst (λ o. AreDroppings false steps.ended.slots o steps.droppings new.slots new.told) ended.1 made.drops)

  abbrev p5 : Play
  p5 = record p4 { slots = new.slots; told = dropped.0 }

  -- ### Together

  whole : tick_of place documents s old.slots t ≡ p5
  whole =
      ap (λ p. drop_strays (tend_queues place documents p (finite.keys s.queues))) started
      ∙ ap (λ names. drop_strays (play_tended place documents p1 (tended_jobs mid.state idle names))) (sym (starts_keys device old.spool steps.parts.startings mid made.starts))
      ∙ ap (λ p. drop_strays (play_ripe p js)) launched_play
      ∙ ap (λ ks. drop_strays (plays play_end p3 ks)) (sym told_are)
      ∙ ap drop_strays ended.3
      ∙ ap (λ ks. plays play_drop p4 ks) (sym left)
      ∙ dropped.2

  is_script : IsScriptRound old steps.parts new (tick_of place documents s old.slots t)
  is_script = subst (IsScriptRound old steps.parts new) (sym whole) (record {
    state = ap (λ (x : OpenSpool D). x.state) made.spool;
    slots = refl;
    told = dropped.1;
    events = refl;
    started = refl;
    ended = refl;
  })

-- The tables, slots, trace, events and counts are those of Script's tick with the documents that were read.
pub tick_exact : {D : Type 0} (device : DiskView D) (laws : Laws) (kept : TicketLaws) (place : Place) (start_room : Option StartRoom) (old new : RunState D) (steps : PassSteps D)
    → IsPass device place false start_room old steps new → IsLegal old.spool.state → old.spool.dead ≡ false → HasStartRoomFor start_room (length (finite.keys old.spool.state.queues)) → fault_in steps.parts ≡ None
    → (t : ChildTrace) (documents : ℕ → List ℕ) → old.told ≡ Some t → HasTickets old.slots t → AreHanded documents steps.parts.launchings
    → IsScriptRound old steps.parts new (tick_of place documents old.spool.state old.slots t)
tick_exact device laws kept place start_room old new steps made legal alive fits none t documents tells has handed =
    is_script device laws kept place start_room old new steps made legal alive fits none t documents tells has handed
