-- The stages that slots have started: none is started again, and each is held until its end is reported.
use Rattle.std.proofs.Common.{◌≡◌, ◌⊎◌, inl, inr, ℕ, Bool, true, false, cond, ◌&&◌, ◌==◌, List, [], ◌∷◌, ◌++◌, Option, Some, None, unwrap_or, Result, Ok, Err, refl, sym, ap, subst, ◌∙◌, append_assoc, append-nil}
use Rattle.std.specs.FinMap as finite
use Rattle.std.proofs.lemmas.List.{map-append}
use Rattle.std.proofs.lemmas.Bool.{eqb-true, eq-eqb}
use Rattle.spool_disk.specs.Disk.{DiskView}
use Rattle.spool_types.specs.declared.event.Event.{Event}
use Rattle.spool_types.specs.declared.event.Event.TheVariants.{Stage}
use Rattle.spool_types.specs.declared.event.StageEnd.{StageEnd}
use Rattle.spool_types.specs.declared.phase.Phase.{Phase}
use Rattle.spool_types.specs.declared.phase.Phase.TheVariants.{Incoming, Waiting, Processing, Completed, Canceled, Aborted}
use Rattle.spool_types.specs.declared.rows.QueueRow.{QueueRow}
use Rattle.spool_types.specs.State.{State, Job, job_at}
use Rattle.job_table.specs.Attempts.{is_in_stage}
use Rattle.job_table.specs.EventFold.{after_all, AreAccepted}
use Rattle.job_table.specs.Legal.{IsLegal}
use Rattle.job_table.specs.Stages.{Key, key_of, IsIn, IsSpent}
use Rattle.job_table.specs.Step.{after, refusal_of}
use Rattle.spool_core.specs.OpenSpools.{OpenSpool}
use Rattle.filter_args.specs.declared.place.Place.{Place}
use Rattle.child_pipeline.specs.declared.order.ChildFault.{ChildFault}
use Rattle.child_pipeline.specs.declared.order.Placed.{Placed}
use Rattle.child_pipeline.specs.declared.runner.Progress.{Progress}
use Rattle.child_pipeline.specs.declared.runner.Progress.TheVariants.{Ready, Running, Ended}
use Rattle.child_pipeline.specs.declared.runner.Slot.{Slot}
use Rattle.child_pipeline.specs.StageSlots.{Slots, slot_in, begun, IsStart, with_progress, put_progress, progress_after, order_in, end_in, is_ready, IsDue, IsCurrent, FinishesFrom}
use Rattle.child_pipeline.specs.ChildTraces.{ChildTrace, started_by}
use Rattle.print_rounds.specs.Choice.{slots_for, slots_in, slots_by, readiness}
use Rattle.print_rounds.specs.Counts.{report_events}
use Rattle.print_rounds.specs.RunStates.{Answer, RunState, Launching, IsLaunch, AreLaunchings, given, Ending, IsReport, IsEndingOf, AreEndings, is_silent}
use Rattle.print_rounds.specs.RoundScript.{current_slots, is_current}
use Rattle.print_rounds.specs.StageHistory.{key_in, keys_in, IsBegunSlot, IsHeld}
use Rattle.job_table.specs.TableCalls.{IsAmong, AreOnce}
use Rattle.job_table.specs.TableVersions.{raised}
use Rattle.print_rounds.specs.declared.outcome.Launch.{Launch}
use Rattle.print_rounds.specs.declared.outcome.Launch.TheVariants.{Unlaunched, Launched, NoMemory, Disk, Dead}
use Rattle.print_rounds.specs.declared.outcome.Report.{Report}
use Rattle.print_rounds.specs.declared.outcome.Report.TheVariants as reports
use Rattle.print_rounds.proofs.CurrentLaws.{due_of}
use Rattle.print_rounds.proofs.EndLaws.{get_own, get_other, moved_same, SameBut}
use Rattle.print_rounds.proofs.FreeLaws.{get_current}
use Rattle.print_rounds.proofs.KeyLaws.{accepted_one, among_either, once_both}
use Rattle.print_rounds.proofs.LaunchLaws.{HasNumbers, due_own, some_of}
use Rattle.print_rounds.proofs.PartLaws.{done_one, end_part}
use Rattle.print_rounds.proofs.ReportLaws.{fault_state}

pub begun_same : (old new : Slots) (k : Key) → finite.get new k.job ≡ finite.get old k.job → IsBegunSlot old k → IsBegunSlot new k
begun_same old new k same has = record { slot = has.slot; there = same ∙ has.there; attempt = has.attempt; stage = has.stage; begun = has.begun }

-- A slot that is held is current.
pub held_current : (s : State) (slots : Slots) (k : Key) → IsHeld s slots k → is_current (job_at s k.job) (finite.get slots k.job) ≡ true
held_current s slots k (inside, held) = ap (λ o. is_current o (finite.get slots k.job)) inside.there ∙ ap (is_current (Some inside.row)) held.there ∙ in_it inside.row.phase inside.phase
  where
    in_it : (p : Phase) → p ≡ Processing k.attempt k.stage inside.stages → is_in_stage held.slot.attempt held.slot.stage p ≡ true
    in_it p is = ap (is_in_stage held.slot.attempt held.slot.stage) is
        ∙ ap (λ b. b && k.stage == held.slot.stage) (eq-eqb k.attempt held.slot.attempt (sym held.attempt)) ∙ eq-eqb k.stage held.slot.stage (sym held.stage)

-- So it remains among the current ones.
pub held_begun : (s : State) (slots : Slots) (k : Key) → IsHeld s slots k → IsBegunSlot (current_slots s slots) k
held_begun s slots k held = begun_same slots (current_slots s slots) k (get_current s slots k.job ∙ ap (λ b. cond b (finite.get slots k.job) None) (held_current s slots k held)) held.1

-- A job's stage that was begun must not be started.
begun_rests : (slots : Slots) (r : Job) (k : Key) (stages : ℕ) → r.id ≡ k.job → r.phase ≡ Processing k.attempt k.stage stages → IsBegunSlot slots k → slots_for slots r ≡ None
begun_rests slots r k stages id is has =
    ap (slots_in slots r) is
    ∙ ap (λ o. slots_by slots r k.stage (readiness k.attempt k.stage o)) (ap (finite.get slots) id ∙ has.there)
    ∙ ap (λ b. slots_by slots r k.stage (cond b (Some (is_ready has.slot.progress)) None)) (ap (λ b. b && has.slot.stage == k.stage) (eq-eqb has.slot.attempt k.attempt has.attempt) ∙ eq-eqb has.slot.stage k.stage has.stage)
    ∙ ap (λ b. slots_by slots r k.stage (Some b)) has.begun

never_both : {X : Type 0} (o : Option X) (x : X) → o ≡ None → o ≡ Some x → ⊥
never_both o x p q = cc

-- ## The starts of stages

-- The effect of starts: each order is for a stage that the table has a job in and that was not begun, each stage once. It is begun after
-- that, and a stage that was begun before stays begun.
pub record AreBegun (s : State) (t : ChildTrace) (old : Slots) (new : Slots) (told : Option ChildTrace) : Type 0 where
  pub now : ChildTrace
  pub tells : told ≡ Some now
  pub orders : List Placed
  pub added : now.orders ≡ t.orders ++ orders
  pub once : AreOnce (keys_in orders)
  pub fresh : (k : Key) → IsAmong (keys_in orders) k → ¬ (IsBegunSlot old k)
  pub inside : (k : Key) → IsAmong (keys_in orders) k → IsIn s k
  pub begun : (k : Key) → IsAmong (keys_in orders) k → IsBegunSlot new k
  pub kept : (k : Key) → IsIn s k → IsBegunSlot old k → IsBegunSlot new k

none_begun : (s : State) (t : ChildTrace) (old new : Slots) (told : Option ChildTrace) → told ≡ Some t → ((k : Key) → IsIn s k → IsBegunSlot old k → IsBegunSlot new k) → AreBegun s t old new told
none_begun s t old new told tells kept = record {
  now = t;
  tells = tells;
  orders = [];
  added = sym (append-nil t.orders);
  once = tt;
  fresh = λ k among. absurd among;
  inside = λ k among. absurd among;
  begun = λ k among. absurd among;
  kept = kept;
}

-- Some starts, and then more.
both_begun : (s : State) (t : ChildTrace) (old mid new : Slots) (told told' : Option ChildTrace) (one : AreBegun s t old mid told) → AreBegun s one.now mid new told' → AreBegun s t old new told'
both_begun s t old mid new told told' one two = record {
  now = two.now;
  tells = two.tells;
  orders = one.orders ++ two.orders;
  added = two.added ∙ ap (λ l. l ++ two.orders) one.added ∙ append_assoc t.orders one.orders two.orders;
  once = subst AreOnce (sym split) (once_both (keys_in one.orders) (keys_in two.orders) one.once two.once (λ k first later. two.fresh k later (one.begun k first)));
  fresh = λ k among has. elim (each k among) [
    | inl first ↦ one.fresh k first has
    | inr later ↦ two.fresh k later (one.kept k (two.inside k later) has)
  ];
  inside = λ k among. elim (each k among) [
    | inl first ↦ one.inside k first
    | inr later ↦ two.inside k later
  ];
  begun = λ k among. elim (each k among) [
    | inl first ↦ two.kept k (one.inside k first) (one.begun k first)
    | inr later ↦ two.begun k later
  ];
  kept = λ k inside has. two.kept k inside (one.kept k inside has);
}
  where
    split : keys_in (one.orders ++ two.orders) ≡ keys_in one.orders ++ keys_in two.orders
    split = map-append key_in one.orders two.orders

    each : (k : Key) → IsAmong (keys_in (one.orders ++ two.orders)) k → IsAmong (keys_in one.orders) k ⊎ IsAmong (keys_in two.orders) k
    each k among = among_either (keys_in one.orders) (keys_in two.orders) k (subst (λ l. IsAmong l k) split among)

-- The stage of a current slot.
abbrev key_at : ℕ → Slot ℕ → Key
key_at j slot = record { job = j; attempt = slot.attempt; stage = slot.stage }

current_in : (s : State) (r : Job) (slot : Slot ℕ) (p : Phase) → job_at s r.id ≡ Some r → r.phase ≡ p → IsCurrent slot p → IsIn s (key_at r.id slot)
current_in s r slot (Processing attempt stage stages) there is (first, second) = record {
  row = r;
  stages = stages;
  there = there;
  phase = is ∙ ap (λ a. Processing a stage stages) (sym first) ∙ ap (λ n. Processing slot.attempt n stages) (sym second);
}
current_in s r slot (Incoming hold) there is current = absurd current
current_in s r slot (Waiting hold not_before first) there is current = absurd current
current_in s r slot Completed there is current = absurd current
current_in s r slot Canceled there is current = absurd current
current_in s r slot (Aborted reason) there is current = absurd current

progress_begun : (b : Bool) (n : ℕ) → is_ready (progress_after b n) ≡ false
progress_begun true n = refl
progress_begun false n = refl

-- The slot of a stage that must be started.
due_slot : (o : Option (Slot ℕ)) (p : Phase) → IsDue o p → IsCurrent (unwrap_or o (begun 0 0)) p
due_slot None p due = absurd due
due_slot (Some slot) p due = due.1

-- A stage that was begun in the slots before must not be started, so it is another job's.
module _ (s : State) (old own : Slots) (r : Job) (there : job_at s r.id ≡ Some r) (due : slots_for old r ≡ Some own) where
  other_begun : (k : Key) → IsIn s k → IsBegunSlot old k → (b : Bool) → (k.job == r.id) ≡ b → b ≡ false
  other_begun k inside has false is = refl
  other_begun k inside has true is =
      let same : k.job ≡ r.id = eqb-true k.job r.id is in
      let row : inside.row ≡ r = some_of inside.row r (sym inside.there ∙ ap (job_at s) same ∙ there) in
      absurd (never_both (slots_for old r) own (begun_rests old r k inside.stages (sym same) (ap (λ (x : Job). x.phase) (sym row) ∙ inside.phase) has) due)

  kept_by : (new : Slots) → SameBut r.id old new → (k : Key) → IsIn s k → IsBegunSlot old k → IsBegunSlot new k
  kept_by new same k inside has = begun_same old new k (same k.job (other_begun k inside has (k.job == r.id) refl)) has

  module _ (place : Place) (q : QueueRow) (t : ChildTrace) (n : ℕ) (b : Bool) (new : Slots) (put : new ≡ put_progress own r.id (progress_after b n)) where
    own_in : IsIn s (key_at r.id (slot_in own r.id))
    own_in = current_in s r (slot_in own r.id) r.phase there refl (due_slot (finite.get own r.id) r.phase (due_of old r own due))

    own_begun : IsBegunSlot new (key_at r.id (slot_in own r.id))
    own_begun = record {
      slot = with_progress (slot_in own r.id) (progress_after b n);
      there = ap (λ m. finite.get m r.id) put ∙ get_own own r.id (with_progress (slot_in own r.id) (progress_after b n));
      attempt = refl;
      stage = refl;
      begun = progress_begun b n;
    }

    own_fresh : ¬ (IsBegunSlot old (key_at r.id (slot_in own r.id)))
    own_fresh has = never_both (slots_for old r) own (begun_rests old r (key_at r.id (slot_in own r.id)) own_in.stages refl (ap (λ (x : Job). x.phase) (some_of r own_in.row (sym there ∙ own_in.there)) ∙ own_in.phase) has) due

    others : SameBut r.id old new
    others k other = ap (λ m. finite.get m k) put ∙ get_other own r.id k (with_progress (slot_in own r.id) (progress_after b n)) other ∙ (due_own old r own due).same k other

    one_order : (p : Placed) → key_in p ≡ key_at r.id (slot_in own r.id) → (now : ChildTrace) (told : Option ChildTrace) → told ≡ Some now → now.orders ≡ t.orders ++ p ∷ [] → AreBegun s t old new told
    one_order p is now told tells added = record {
      now = now;
      tells = tells;
      orders = p ∷ [];
      added = added;
      once = (λ among. among, tt);
      fresh = λ k among. elim among [
        | inl same ↦ subst (λ x. ¬ (IsBegunSlot old x)) (sym is ∙ same) own_fresh
        | inr none ↦ absurd none
      ];
      inside = λ k among. elim among [
        | inl same ↦ subst (IsIn s) (sym is ∙ same) own_in
        | inr none ↦ absurd none
      ];
      begun = λ k among. elim among [
        | inl same ↦ subst (IsBegunSlot new) (sym is ∙ same) own_begun
        | inr none ↦ absurd none
      ];
      kept = kept_by new others;
    }

    -- By the answers to come.
    by_answers : (starts : List (Result (Unit {0}) ChildFault)) (document : List ℕ) (told : Option ChildTrace) → told ≡ Some (started_by t (order_in place own r q document) starts) → AreBegun s t old new told
    by_answers [] document told tells = none_begun s t old new told tells (kept_by new others)
    by_answers (Ok done ∷ rest) document told tells = one_order (record { order = order_in place own r q document; before = t.finished }) refl _ told tells refl
    by_answers (Err fault ∷ rest) document told tells = one_order (record { order = order_in place own r q document; before = t.finished }) refl _ told tells refl

module _ (place : Place) (s : State) (numbers : HasNumbers s) where
  -- No child was started, and the slots are unchanged.
  same_begun : (t : ChildTrace) (old new : Slots) (told : Option ChildTrace) → told ≡ Some t → new ≡ old → AreBegun s t old new told
  same_begun t old new told tells same = none_begun s t old new told tells (λ k inside has. begun_same old new k (ap (λ m. finite.get m k.job) same) has)

  -- No child was started, and the stage has a slot.
  own_kept : (old new : Slots) (j : ℕ) (r : Job) (own : Slots) → job_at s j ≡ Some r → slots_for old r ≡ Some own → new ≡ own → (k : Key) → IsIn s k → IsBegunSlot old k → IsBegunSlot new k
  own_kept old new j r own there due same k inside has =
      kept_by s old own r (ap (job_at s) (numbers j r there) ∙ there) due new (λ i other. ap (λ m. finite.get m i) same ∙ (due_own old r own due).same i other) k inside has

  launch_begun : (t : ChildTrace) (old : Slots) (told : Option ChildTrace) (j : ℕ) (d : Option (List ℕ)) (l : Launch) (new : Slots) (told' : Option ChildTrace) → IsLaunch place s old told j d l new told' → told ≡ Some t → AreBegun s t old new told'
  launch_begun t old told j d Unlaunched new told' (rests, none, same, tells') tells = same_begun t old new told' (tells' ∙ tells) same
  launch_begun t old told j d (Launched b) new told' (r, q, own, due, input, starts) tells =
      let row = ap (job_at s) (numbers j r due.row) ∙ due.row in
      let start = subst (λ o. IsStart o (order_in place own r q (given d)) b starts.number told') tells starts.start in
      by_answers s old own r row due.due place q t starts.number b new starts.slots t.starts (given d) told' start.told
  launch_begun t old told j d NoMemory new told' (r, q, own, due, either, tells') tells = none_begun s t old new told' (tells' ∙ tells) (λ k inside has. elim either [
    | inl same ↦ begun_same old new k (ap (λ m. finite.get m k.job) same) has
    | inr same ↦ own_kept old new j r own due.row due.due same k inside has
  ])
  launch_begun t old told j d Disk new told' (r, q, own, due, none, same, tells') tells = none_begun s t old new told' (tells' ∙ tells) (own_kept old new j r own due.row due.due same)
  launch_begun t old told j d Dead new told' (none, same, tells') tells = same_begun t old new told' (tells' ∙ tells) same

  pub launches_begun : (t : ChildTrace) (old : Slots) (told : Option ChildTrace) (ts : List Launching) (new : Slots) (told' : Option ChildTrace) → AreLaunchings place s old told ts new told' → told ≡ Some t → AreBegun s t old new told'
  launches_begun t old told [] new told' (same, tells') tells = same_begun t old new told' (tells' ∙ tells) same
  launches_begun t old told (l ∷ ts) new told' (launch, launches) tells =
      let one = launch_begun t old told l.job l.document l.launch l.slots l.told launch tells in
      both_begun s t old l.slots new l.told told' one (launches_begun one.now l.slots l.told ts new told' launches one.tells)

-- ## The ends of stages

-- The table has the job in the stage, which is begun, or the stage is spent.
abbrev IsGoing : State → Slots → Key → Type 0
IsGoing s slots k = IsHeld s slots k ⊎ IsSpent s k

-- Laws of each legal table.
pub record Laws : Type 0 where
  pub legal : (s : State) (events : List Event) → IsLegal s → IsLegal (after_all s events)
  pub spent : (s : State) (k : Key) (events : List Event) → IsLegal s → IsSpent s k → IsSpent (after_all s events) k
  pub left : (s : State) (k : Key) (events : List Event) → IsLegal s → IsIn s k → IsIn (after_all s events) k ⊎ IsSpent (after_all s events) k
  pub either : (s : State) (k : Key) → IsLegal s → IsIn s k → ¬ (IsSpent s k)
  pub ended : (s : State) (e : StageEnd) → IsLegal s → refusal_of s (Stage e) ≡ None → IsSpent (after s (Stage e)) (key_of e)
  pub rises : (s : State) (events : List Event) → AreAccepted s events → AreAccepted (raised s) events × (after_all (raised s) events ≡ raised (after_all s events))
  pub raised_legal : (s : State) → IsLegal s → IsLegal (raised s)

-- A stored finish of a job.
pub waited_begun : (old new : Slots) (j : ℕ) (told told' : Option ChildTrace) (p : Progress ℕ) → p ≡ (slot_in old j).progress → FinishesFrom p told old j new told' → (k : Key) → IsBegunSlot old k → IsBegunSlot new k
waited_begun old new j told told' (Ended finish) at (same, tells) k has = begun_same old new k (ap (λ m. finite.get m k.job) same) has
waited_begun old new j told told' (Ready input) at finishes k has = absurd finishes
waited_begun old new j told told' (Running n) at finishes k has = by_job (k.job == j) refl
  where
    by_job : (b : Bool) → (k.job == j) ≡ b → IsBegunSlot new k
    by_job true is =
        let same : k.job ≡ j = eqb-true k.job j is in
        let own : slot_in old j ≡ has.slot = ap (λ o. unwrap_or o (begun 0 0)) (ap (finite.get old) (sym same) ∙ has.there) in
        record {
          slot = with_progress (slot_in old j) (Ended finishes.finish);
          there = ap (finite.get new) same ∙ ap (λ m. finite.get m j) finishes.slots ∙ get_own old j (with_progress (slot_in old j) (Ended finishes.finish));
          attempt = ap (λ (x : Slot ℕ). x.attempt) own ∙ has.attempt;
          stage = ap (λ (x : Slot ℕ). x.stage) own ∙ has.stage;
          begun = refl;
        }
    by_job false is = begun_same old new k (ap (λ m. finite.get m k.job) finishes.slots ∙ get_other old j k.job (with_progress (slot_in old j) (Ended finishes.finish)) is) has

module _ {D : Type 0} (device : DiskView D) (laws : Laws) (k : Key) where
  -- A stage after an event that was accepted.
  after_event : (s t : State) (e : Event) → IsLegal s → t ≡ after_all s (e ∷ []) → IsIn s k → IsIn t k ⊎ IsSpent t k
  after_event s t e legal is inside = subst (λ u. IsIn u k ⊎ IsSpent u k) (sym is) (laws.left s k (e ∷ []) legal inside)

  answered_going : (kept next : RunState D) (j : ℕ) (a : Answer) → IsReport device kept j (reports.Answered a) next → IsLegal kept.spool.state → IsIn kept.spool.state k → IsBegunSlot kept.slots k → IsGoing next.spool.state next.slots k
  answered_going kept next j (Err fault) (is, slots, told) legal inside has =
      inl (subst (λ s. IsIn s k) (sym (fault_state device kept.spool (Stage (end_in kept.slots j)) fault next.spool is.cause)) inside, begun_same kept.slots next.slots k (ap (λ m. finite.get m k.job) slots) has)
  answered_going kept next j (Ok reply) (is, slots, told) legal inside has = by_job (k.job == j) refl
    where
      by_job : (b : Bool) → (k.job == j) ≡ b → IsGoing next.spool.state next.slots k
      by_job true at =
          let same : k.job ≡ j = eqb-true k.job j at in
          let own : slot_in kept.slots j ≡ has.slot = ap (λ o. unwrap_or o (begun 0 0)) (ap (finite.get kept.slots) (sym same) ∙ has.there) in
          let key : key_of (end_in kept.slots j) ≡ k =
          ap (λ i. record { job = i; attempt = (slot_in kept.slots j).attempt; stage = (slot_in kept.slots j).stage }) (sym same)
          ∙ ap (λ a. record { job = k.job; attempt = a; stage = (slot_in kept.slots j).stage }) (ap (λ (x : Slot ℕ). x.attempt) own ∙ has.attempt)
          ∙ ap (λ n. record { job = k.job; attempt = k.attempt; stage = n }) (ap (λ (x : Slot ℕ). x.stage) own ∙ has.stage) in
          let gone = laws.ended kept.spool.state (end_in kept.slots j) legal is.cause.fits.accepted in
          inr (subst (λ s. IsSpent s k) (sym (done_one device kept.spool (Stage (end_in kept.slots j)) reply next.spool is.cause ∙ accepted_one kept.spool.state (Stage (end_in kept.slots j)) is.cause.fits.accepted))
          (subst (IsSpent (after kept.spool.state (Stage (end_in kept.slots j)))) key gone))
      by_job false at = elim (after_event kept.spool.state next.spool.state (Stage (end_in kept.slots j)) legal (done_one device kept.spool (Stage (end_in kept.slots j)) reply next.spool is.cause) inside) [
        | inl still ↦ inl (still, begun_same kept.slots next.slots k (ap (λ m. finite.get m k.job) slots ∙ moved_same kept.slots j (Ok reply) k.job at) has)
        | inr gone ↦ inr gone
      ]

  report_going : (kept next : RunState D) (j : ℕ) (r : Report) → IsReport device kept j r next → IsLegal kept.spool.state → IsIn kept.spool.state k → IsBegunSlot kept.slots k → IsGoing next.spool.state next.slots k
  report_going kept next j reports.Silent is legal inside has = absurd is
  report_going kept next j reports.NoMemory is legal inside has = subst (λ (c : RunState D). IsGoing c.spool.state c.slots k) (sym is) (inl (inside, has))
  report_going kept next j (reports.Answered a) is legal inside has = answered_going kept next j a is legal inside has

  end_going : (old : RunState D) (e : Ending D) (b : Bool) → IsEndingOf device old b e → IsLegal old.spool.state → IsIn old.spool.state k → IsBegunSlot old.slots k → IsGoing e.next.spool.state e.next.slots k
  end_going old e true (silent, kept, next) legal inside has = subst (λ (c : RunState D). IsGoing c.spool.state c.slots k) (sym next) (inl (inside, has))
  end_going old e false (finishes, same, report) legal inside has =
      report_going e.kept e.next e.job e.report report (subst (λ (x : OpenSpool D). IsLegal x.state) (sym same) legal) (subst (λ (x : OpenSpool D). IsIn x.state k) (sym same) inside)
      (waited_begun old.slots e.kept.slots e.job old.told e.kept.told (slot_in old.slots e.job).progress refl finishes k has)

  pub ends_going : (old : RunState D) (es : List (Ending D)) (new : RunState D) → AreEndings device old es new → IsLegal old.spool.state → IsGoing old.spool.state old.slots k → IsGoing new.spool.state new.slots k
  ends_going old [] new same legal going = subst (λ (c : RunState D). IsGoing c.spool.state c.slots k) (sym same) going
  ends_going old (e ∷ es) new (ends, others) legal going =
      let part = end_part device old e ends in
      let table = part.table in
      let events = report_events (Stage (end_in e.kept.slots e.job)) e.report in
      ends_going e.next es new others (subst IsLegal (sym table) (laws.legal old.spool.state events legal)) (elim going [
        | inl now ↦ end_going old e (is_silent (finite.get old.slots e.job)) ends legal now.0 now.1
        | inr gone ↦ inr (subst (λ s. IsSpent s k) (sym table) (laws.spent old.spool.state k events legal gone))
      ])
