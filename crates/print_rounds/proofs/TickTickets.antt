-- A tick loses no ticket: each child that was started runs or was finished once.
use Rattle.std.proofs.Common.{◌≡◌, inl, inr, ℕ, Bool, ◌&&◌, ◌||◌, nat_lt, true, false, cond, ◌==◌, List, [], ◌∷◌, map, Option, Some, None, unwrap_or, Ok, Err, refl, sym, ap, subst, ◌∙◌, arith}
use Rattle.std.specs.FinMap as finite
use Rattle.std.specs.List.{filter}
use Rattle.std.proofs.lemmas.Bool.{eqb-true}
use Rattle.std.proofs.lemmas.List.Sums.{sum_by-cons}
use Rattle.spool_disk.specs.Disk.{DiskView}
use Rattle.spool_types.specs.declared.event.Reply.TheVariants as replies
use Rattle.spool_types.specs.declared.phase.Phase.{Phase}
use Rattle.spool_types.specs.declared.phase.Phase.TheVariants.{Incoming, Waiting, Processing, Completed, Canceled, Aborted}
use Rattle.spool_types.specs.Phases.{is_processing}
use Rattle.spool_types.specs.State.{State, Job, job_at}
use Rattle.filter_args.specs.declared.place.Place.{Place}
use Rattle.child_pipeline.specs.declared.order.Order.{Order}
use Rattle.child_pipeline.specs.declared.runner.Progress.{Progress}
use Rattle.child_pipeline.specs.declared.runner.Progress.TheVariants.{Ready, Running, Ended}
use Rattle.child_pipeline.specs.declared.runner.Slot.{Slot}
use Rattle.child_pipeline.specs.StageSlots.{Slots, slot_in, begun, begun_in, advanced, advanced_in, with_progress, put_progress, progress_after, order_in, is_ready, is_running, IsStart, IsTicketless, IsDue, FinishesFrom, Waits}
use Rattle.child_pipeline.specs.Tickets.{IsRunningAs, HasTickets, IsBalanced, AreKeptBy}
use Rattle.child_pipeline.specs.ChildTraces.{ChildTrace, is_in, after_finish, after_look, Looks}
use Rattle.print_rounds.specs.Choice.{slots_for, slots_in, slots_by, new_slots, readiness}
use Rattle.print_rounds.specs.Counts.{started_by, started_in}
use Rattle.print_rounds.specs.RunStates.{Answer, RunState, Launching, IsLaunch, AreLaunchings, given, Ending, IsEndingOf, AreEndings, IsReport, is_silent, moved}
use Rattle.print_rounds.specs.Finished.{AreDistinct, AllRest}
use Rattle.print_rounds.specs.StageChecks.{Look, is_looked_at, IsLookBy, AreLooks, Dropping, IsDropped, AreDroppings, is_kept, idle_slots}
use Rattle.print_rounds.specs.RoundTicks.{Finishing, AreFinishings}
use Rattle.print_rounds.specs.declared.outcome.Launch.{Launch}
use Rattle.print_rounds.specs.declared.outcome.Launch.TheVariants.{Unlaunched, Launched, NoMemory, Disk, Dead}
use Rattle.print_rounds.specs.declared.outcome.Report.{Report}
use Rattle.print_rounds.specs.declared.outcome.Report.TheVariants as reports
use Rattle.print_rounds.proofs.CurrentLaws.{due_of}
use Rattle.print_rounds.proofs.EndLaws.{get_own, get_other, ticketless, turned, SameBut}
use Rattle.print_rounds.proofs.FreeLaws.{get_idle, off_rests}
use Rattle.print_rounds.proofs.LaunchLaws.{HasNumbers, launches_same, rest_same, some_of}

-- Laws of all tickets.
pub record TicketLaws : Type 0 where
  pub starts : (slots : Slots) (j : ℕ) (t : ChildTrace) (order : Order) (b : Bool) (n : ℕ) (told : Option ChildTrace) → HasTickets slots t → IsTicketless (finite.get slots j) → IsStart (Some t) order b n told → AreKeptBy t (cond b 1 0) (put_progress slots j (progress_after b n)) told
  pub finishes : (slots : Slots) (j n : ℕ) (t : ChildTrace) (new : Slots) (told : Option ChildTrace) → HasTickets slots t → IsRunningAs slots j n → Waits (Some t) n slots j new told → AreKeptBy t 0 new told
  pub looks : (slots : Slots) (t : ChildTrace) (ended : Bool) (told : Option ChildTrace) → HasTickets slots t → Looks (Some t) ended told → AreKeptBy t 0 slots told
  pub releases : (slots : Slots) (j : ℕ) (t : ChildTrace) → HasTickets slots t → IsTicketless (finite.get slots j) → HasTickets (finite.remove slots j) t

none_lost : (t : ChildTrace) → IsBalanced t 0 t
none_lost t = omega arith

-- ## Slots

-- Slots that are freed have no running child.
pub idle_tickets : (s : State) (slots : Slots) (t : ChildTrace) → HasTickets slots t → HasTickets (idle_slots s slots) t
idle_tickets s slots t has = record {
  running = λ j n r. has.running j n (back j n r);
  owned = λ n is. let (j, r) = has.owned n is in (j, record { slot = r.slot; there = stays j n r; runs = r.runs });
  apart = λ i j n r q. has.apart i j n (back i n r) (back j n q);
  known = has.known;
  once = has.once;
}
  where
    stays : (j n : ℕ) → (r : IsRunningAs slots j n) → finite.get (idle_slots s slots) j ≡ Some r.slot
    stays j n r = get_idle s slots j ∙ by_test (is_kept (job_at s j) (finite.get slots j)) refl
      where
        by_test : (b : Bool) → is_kept (job_at s j) (finite.get slots j) ≡ b → cond b (finite.get slots j) None ≡ Some r.slot
        by_test true is = r.there
        by_test false off = absurd (subst IsTicketless r.there (off_rests (job_at s j) (finite.get slots j) off) n r.runs)

    back : (j n : ℕ) → (r : IsRunningAs (idle_slots s slots) j n) → IsRunningAs slots j n
    back j n r = by_test (is_kept (job_at s j) (finite.get slots j)) (sym (get_idle s slots j) ∙ r.there)
      where
        by_test : (b : Bool) → cond b (finite.get slots j) None ≡ Some r.slot → IsRunningAs slots j n
        by_test true there = record { slot = r.slot; there = there; runs = r.runs }
        by_test false there = absurd (cc)

-- A slot without a child replaces a slot without a child.
module _ (m : Slots) (j : ℕ) (x : Slot ℕ) (quiet : (n : ℕ) → ¬ (x.progress ≡ Running n)) (rests : IsTicketless (finite.get m j)) where
  other_job : (k n : ℕ) → IsRunningAs m k n → (k == j) ≡ false
  other_job k n r = by_test (k == j) refl
    where
      by_test : (b : Bool) → (k == j) ≡ b → b ≡ false
      by_test true is = absurd (subst IsTicketless (ap (finite.get m) (sym (eqb-true k j is)) ∙ r.there) rests n r.runs)
      by_test false is = refl

  back : (k n : ℕ) → IsRunningAs (finite.insert m j x) k n → IsRunningAs m k n
  back k n r = by_test (k == j) refl
    where
      by_test : (b : Bool) → (k == j) ≡ b → IsRunningAs m k n
      by_test true is =
          let own : x ≡ r.slot = some_of x r.slot (sym (get_own m j x) ∙ ap (finite.get (finite.insert m j x)) (sym (eqb-true k j is)) ∙ r.there) in
          absurd (quiet n (ap (λ (s : Slot ℕ). s.progress) own ∙ r.runs))
      by_test false is = record { slot = r.slot; there = sym (get_other m j k x is) ∙ r.there; runs = r.runs }

  quiet_put : (t : ChildTrace) → HasTickets m t → HasTickets (finite.insert m j x) t
  quiet_put t has = record {
    running = λ k n r. has.running k n (back k n r);
    owned = λ n is. let (k, r) = has.owned n is in (k, record { slot = r.slot; there = get_other m j k x (other_job k n r) ∙ r.there; runs = r.runs });
    apart = λ i k n r q. has.apart i k n (back i n r) (back k n q);
    known = has.known;
    once = has.once;
  }

-- ## Jobs

-- An item that does not pass the test is not in the part.
pub fails_out : (p : ℕ → Bool) (j : ℕ) (js : List ℕ) → p j ≡ false → is_in j (filter p js) ≡ false
fails_out p j [] fails = refl
fails_out p j (k ∷ js) fails = by_test (fails_out p j js fails) (p k) refl
  where
    differs : p k ≡ true → (b : Bool) → (k == j) ≡ b → b ≡ false
    differs passes true same = let both : true ≡ false = sym passes ∙ ap p (eqb-true k j same) ∙ fails in absurd (cc)
    differs passes false other = refl

    by_test : is_in j (filter p js) ≡ false → (b : Bool) → p k ≡ b → is_in j (cond b (k ∷ filter p js) (filter p js)) ≡ false
    by_test rest true passes = ap (λ b. b || is_in j (filter p js)) (differs passes (k == j) refl) ∙ rest
    by_test rest false is = rest

-- ## Starts

-- The slots for a stage, before its start.
module _ (slots : Slots) (r : Job) (own : Slots) (t : ChildTrace) (rests : IsTicketless (finite.get slots r.id)) (has : HasTickets slots t) where
  begun_has : (attempt stage stages : ℕ) → HasTickets (begun_in slots r.id (Processing attempt stage stages)) t
  begun_has attempt stage stages = quiet_put slots r.id (begun attempt stage) (λ n is. absurd (cc)) rests t has

  new_has : (first : Bool) (p : Phase) → HasTickets (begun_in slots r.id p) t → cond first (Some (begun_in slots r.id p)) None ≡ Some own → HasTickets own t
  new_has true p is e = subst (λ m. HasTickets m t) (some_of _ _ e) is
  new_has false p is e = absurd (cc)

  due_has : slots_for slots r ≡ Some own → HasTickets own t
  due_has due = by_phase r.phase refl due
    where
      fresh : (attempt stage stages : ℕ) → r.phase ≡ Processing attempt stage stages → new_slots slots r stage ≡ Some own → HasTickets own t
      fresh attempt stage stages is e = new_has (stage == 1) r.phase (subst (λ p. HasTickets (begun_in slots r.id p) t) (sym is) (begun_has attempt stage stages)) e

      by_slot : (attempt stage stages : ℕ) → r.phase ≡ Processing attempt stage stages → (o : Option Bool) → slots_by slots r stage o ≡ Some own → HasTickets own t
      by_slot attempt stage stages is None e = fresh attempt stage stages is e
      by_slot attempt stage stages is (Some true) e = subst (λ m. HasTickets m t) (some_of _ _ e) has
      by_slot attempt stage stages is (Some false) e = absurd (cc)

      by_phase : (p : Phase) → r.phase ≡ p → slots_in slots r p ≡ Some own → HasTickets own t
      by_phase (Processing attempt stage stages) is e = by_slot attempt stage stages is (readiness attempt stage (finite.get slots r.id)) e
      by_phase (Incoming hold) is e = absurd (cc)
      by_phase (Waiting hold not_before first) is e = absurd (cc)
      by_phase Completed is e = absurd (cc)
      by_phase Canceled is e = absurd (cc)
      by_phase (Aborted reason) is e = absurd (cc)

-- A stage that is due has no child.
due_rests : (o : Option (Slot ℕ)) (p : Phase) → IsDue o p → IsTicketless o
due_rests None p due = tt
due_rests (Some slot) p due = by_progress slot.progress due.0
  where
    by_progress : (q : Progress ℕ) → is_ready q ≡ true → (n : ℕ) → ¬ (q ≡ Running n)
    by_progress (Ready input) ready n is = absurd (cc)
    by_progress (Running k) ready n is = absurd (cc)
    by_progress (Ended finish) ready n is = absurd (cc)

same_kept : (t : ChildTrace) (slots new : Slots) (told told' : Option ChildTrace) → told ≡ Some t → told' ≡ told → new ≡ slots → HasTickets slots t → AreKeptBy t 0 new told'
same_kept t slots new told told' tells same is has = record { now = t; tells = same ∙ tells; tickets = subst (λ m. HasTickets m t) (sym is) has; balanced = none_lost t }

module _ (laws : TicketLaws) (place : Place) (s : State) (numbers : HasNumbers s) where
  launch_keeps : (t : ChildTrace) (old : Slots) (told : Option ChildTrace) (j : ℕ) (d : Option (List ℕ)) (l : Launch) (new : Slots) (told' : Option ChildTrace) → IsLaunch place s old told j d l new told' → told ≡ Some t → IsTicketless (finite.get old j) → HasTickets old t → AreKeptBy t (started_by l) new told'
  launch_keeps t old told j d Unlaunched new told' (rests_on, none, same, tells') tells rests has = same_kept t old new told told' tells tells' same has
  launch_keeps t old told j d (Launched b) new told' (r, q, own, due, input, starts) tells rests has =
      let own_has = due_has old r own t (subst (λ i. IsTicketless (finite.get old i)) (sym (numbers j r due.row)) rests) has due.due in
      let own_rests = due_rests (finite.get own r.id) r.phase (due_of old r own due.due) in
      let start = subst (λ o. IsStart o (order_in place own r q (given d)) b starts.number told') tells starts.start in
      subst (λ m. AreKeptBy t (cond b 1 0) m told') (sym starts.slots) (laws.starts own r.id t (order_in place own r q (given d)) b starts.number told' own_has own_rests start)
  launch_keeps t old told j d NoMemory new told' (r, q, own, due, either, tells') tells rests has = elim either [
    | inl same ↦ same_kept t old new told told' tells tells' same has
    | inr same ↦ same_kept t own new told told' tells tells' same (due_has old r own t (subst (λ i. IsTicketless (finite.get old i)) (sym (numbers j r due.row)) rests) has due.due)
  ]
  launch_keeps t old told j d Disk new told' (r, q, own, due, none, same, tells') tells rests has =
      same_kept t own new told told' tells tells' same (due_has old r own t (subst (λ i. IsTicketless (finite.get old i)) (sym (numbers j r due.row)) rests) has due.due)
  launch_keeps t old told j d Dead new told' (none, same, tells') tells rests has = same_kept t old new told told' tells tells' same has

  -- The start of a stage changes only the slot of its job.
  one_same : (old : Slots) (told : Option ChildTrace) (l : Launching) → IsLaunch place s old told l.job l.document l.launch l.slots l.told → SameBut l.job old l.slots
  one_same old told l launch = λ k other. launches_same place s numbers old told (l ∷ []) l.slots l.told (launch, (refl, refl)) k (ap (λ b. b || false) (turned k l.job other))

  -- Stages of jobs without a running child.
  pub launches_keep : (t : ChildTrace) (old : Slots) (told : Option ChildTrace) (ts : List Launching) (new : Slots) (told' : Option ChildTrace) → AreLaunchings place s old told ts new told' → AllRest old (map (λ l. l.job) ts) → AreDistinct (map (λ l. l.job) ts) → told ≡ Some t → HasTickets old t → AreKeptBy t (started_in ts) new told'
  launches_keep t old told [] new told' (same, tells') rest distinct tells has = same_kept t old new told told' tells tells' same has
  launches_keep t old told (l ∷ ts) new told' (launch, launches) (rests, rest) (first, distinct) tells has =
      let one = launch_keeps t old told l.job l.document l.launch l.slots l.told launch tells rests has in
      let rest_then = rest_same l.job old l.slots (one_same old told l launch) (map (λ l. l.job) ts) first rest in
      let more = launches_keep one.now l.slots l.told ts new told' launches rest_then distinct one.tells one.tickets in
      let count = sum_by-cons (λ (x : Launching). started_by x.launch) l ts in
      record { now = more.now; tells = more.tells; tickets = more.tickets; balanced = omega (arith, one.balanced, more.balanced, count) }

-- ## Checks, ends and droppings

-- The effect of such a step: the orders are unchanged, and no ticket is lost.
pub record IsKeptTo (t : ChildTrace) (slots : Slots) (told : Option ChildTrace) : Type 0 where
  pub now : ChildTrace
  pub tells : told ≡ Some now
  pub orders : now.orders ≡ t.orders
  pub tickets : HasTickets slots now
  pub balanced : IsBalanced t 0 now

unchanged : (t : ChildTrace) (slots : Slots) (told : Option ChildTrace) → told ≡ Some t → HasTickets slots t → IsKeptTo t slots told
unchanged t slots told tells has = record { now = t; tells = tells; orders = refl; tickets = has; balanced = none_lost t }

kept_on : (t : ChildTrace) (mid new : Slots) (told told' : Option ChildTrace) (one : IsKeptTo t mid told) → IsKeptTo one.now new told' → IsKeptTo t new told'
kept_on t mid new told told' one more = record { now = more.now; tells = more.tells; orders = more.orders ∙ one.orders; tickets = more.tickets; balanced = omega (arith, one.balanced, more.balanced) }

-- A job has the child that its slot shows.
pub runs_as : (slots : Slots) (j n : ℕ) → (slot_in slots j).progress ≡ Running n → IsRunningAs slots j n
runs_as slots j n is = by_slot (finite.get slots j) refl
  where
    by_slot : (o : Option (Slot ℕ)) → finite.get slots j ≡ o → IsRunningAs slots j n
    by_slot None there = let none : Ready None ≡ Running n = sym (ap (λ o. (unwrap_or o (begun 0 0)).progress) there) ∙ is in absurd (cc)
    by_slot (Some slot) there = record { slot = slot; there = there; runs = sym (ap (λ o. (unwrap_or o (begun 0 0)).progress) there) ∙ is }

-- A job whose slot has a finish has no running child.
ended_rests : (slots : Slots) (j : ℕ) (q : Progress ℕ) → (slot_in slots j).progress ≡ q → is_running q ≡ false → IsTicketless (finite.get slots j)
ended_rests slots j q is quiet = by_slot (finite.get slots j) refl
  where
    by_slot : (o : Option (Slot ℕ)) → finite.get slots j ≡ o → IsTicketless (finite.get slots j)
    by_slot None there = subst IsTicketless (sym there) tt
    by_slot (Some slot) there = ticketless _ slot q there (sym (ap (λ o. (unwrap_or o (begun 0 0)).progress) there) ∙ is) quiet

moved_keeps : (laws : TicketLaws) (slots : Slots) (j : ℕ) (a : Answer) (t : ChildTrace) → IsTicketless (finite.get slots j) → HasTickets slots t → HasTickets (moved slots j a) t
moved_keeps laws slots j (Err fault) t rests has = has
moved_keeps laws slots j (Ok replies.Done) t rests has = laws.releases slots j t has rests
moved_keeps laws slots j (Ok (replies.Number n)) t rests has = laws.releases slots j t has rests
moved_keeps laws slots j (Ok (replies.Size n)) t rests has = laws.releases slots j t has rests
moved_keeps laws slots j (Ok (replies.Phase p)) t rests has = by_phase (is_processing p && nat_lt (slot_in slots j).stage 16)
  where
    by_phase : (b : Bool) → HasTickets (cond b (advanced_in slots j) (finite.remove slots j)) t
    by_phase true = quiet_put slots j (advanced (slot_in slots j)) (λ n is. absurd (cc)) rests t has
    by_phase false = laws.releases slots j t has rests

module _ (laws : TicketLaws) where
  -- A check takes one answer, and changes nothing else.
  look_keeps : (t : ChildTrace) (slots : Slots) (b : Bool) (told : Option ChildTrace) (l : Look) → IsLookBy b told l → told ≡ Some t → HasTickets slots t → IsKeptTo t slots l.told
  look_keeps t slots true told l look tells has =
      let looked : Looks (Some t) l.ripe l.told = subst (λ o. Looks o l.ripe l.told) tells look in
      let keeps = laws.looks slots t l.ripe l.told has looked in
      record {
        now = keeps.now;
        tells = keeps.tells;
        orders = ap (λ (u : ChildTrace). u.orders) (some_of keeps.now (after_look t) (sym keeps.tells ∙ looked.told));
        tickets = keeps.tickets;
        balanced = keeps.balanced;
      }
  look_keeps t slots false told l (ripe, same) tells has = unchanged t slots l.told (same ∙ tells) has

  pub looks_keep : (t : ChildTrace) (waits : Bool) (slots : Slots) (told : Option ChildTrace) (ls : List Look) (told' : Option ChildTrace) → AreLooks waits slots told ls told' → told ≡ Some t → HasTickets slots t → IsKeptTo t slots told'
  looks_keep t waits slots told [] told' same tells has = unchanged t slots told' (same ∙ tells) has
  looks_keep t waits slots told (l ∷ ls) told' (look, looks) tells has =
      let one = look_keeps t slots (is_looked_at waits slots l.job) told l look tells has in
      kept_on t slots slots l.told told' one (looks_keep one.now waits slots l.told ls told' looks one.tells one.tickets)

  -- A child is finished now or was finished before.
  finish_keeps : (t : ChildTrace) (slots : Slots) (told : Option ChildTrace) (j : ℕ) (kept : Slots) (told' : Option ChildTrace) (p : Progress ℕ) → (slot_in slots j).progress ≡ p → FinishesFrom p told slots j kept told' → told ≡ Some t → HasTickets slots t → IsKeptTo t kept told' × IsTicketless (finite.get kept j)
  finish_keeps t slots told j kept told' (Ready input) at finishes tells has = absurd finishes
  finish_keeps t slots told j kept told' (Running n) at finishes tells has =
      let waits : Waits (Some t) n slots j kept told' = subst (λ o. Waits o n slots j kept told') tells finishes in
      let runs = runs_as slots j n at in
      let keeps = laws.finishes slots j n t kept told' has runs waits in
      let put : Slot ℕ = with_progress (slot_in slots j) (Ended waits.finish) in (
        record {
          now = keeps.now;
          tells = keeps.tells;
          orders = ap (λ (u : ChildTrace). u.orders) (some_of keeps.now (after_finish t n) (sym keeps.tells ∙ (waits.answer (has.running j n runs)).1));
          tickets = keeps.tickets;
          balanced = keeps.balanced;
        },
        ticketless _ put (Ended waits.finish) (ap (λ m. finite.get m j) waits.slots ∙ get_own slots j put) refl refl,
      )
  finish_keeps t slots told j kept told' (Ended finish) at (same, told_same) tells has = (
    unchanged t kept told' (told_same ∙ tells) (subst (λ m. HasTickets m t) (sym same) has),
    subst (λ m. IsTicketless (finite.get m j)) (sym same) (ended_rests slots j (Ended finish) at refl),
  )

  module _ {D : Type 0} (device : DiskView D) where
    report_keeps : (t : ChildTrace) (kept : RunState D) (j : ℕ) (r : Report) (next : RunState D) → IsReport device kept j r next → IsTicketless (finite.get kept.slots j) → IsKeptTo t kept.slots kept.told → IsKeptTo t next.slots next.told
    report_keeps t kept j reports.Silent next none rests held = absurd none
    report_keeps t kept j reports.NoMemory next same rests held = subst (λ (c : RunState D). IsKeptTo t c.slots c.told) (sym same) held
    report_keeps t kept j (reports.Answered a) next report rests held = record {
      now = held.now;
      tells = report.2 ∙ held.tells;
      orders = held.orders;
      tickets = subst (λ m. HasTickets m held.now) (sym report.1) (moved_keeps laws kept.slots j a held.now rests held.tickets);
      balanced = held.balanced;
    }

    end_keeps : (t : ChildTrace) (old : RunState D) (e : Ending D) (b : Bool) → IsEndingOf device old b e → old.told ≡ Some t → HasTickets old.slots t → IsKeptTo t e.next.slots e.next.told
    end_keeps t old e true (silent, kept, next) tells has = subst (λ (c : RunState D). IsKeptTo t c.slots c.told) (sym next) (unchanged t old.slots old.told tells has)
    end_keeps t old e false (finishes, same, report) tells has =
        let one = finish_keeps t old.slots old.told e.job e.kept.slots e.kept.told (slot_in old.slots e.job).progress refl finishes tells has in
        report_keeps t e.kept e.job e.report e.next report one.1 one.0

    pub ends_keep : (t : ChildTrace) (old : RunState D) (es : List (Ending D)) (new : RunState D) → AreEndings device old es new → old.told ≡ Some t → HasTickets old.slots t → IsKeptTo t new.slots new.told
    ends_keep t old [] new same tells has = subst (λ (c : RunState D). IsKeptTo t c.slots c.told) (sym same) (unchanged t old.slots old.told tells has)
    ends_keep t old (e ∷ es) new (ends, others) tells has =
        let one = end_keeps t old e (is_silent (finite.get old.slots e.job)) ends tells has in
        kept_on t e.next.slots new.slots e.next.told new.told one (ends_keep one.now e.next es new others one.tells one.tickets)

  drop_keeps : (t : ChildTrace) (slots : Slots) (told : Option ChildTrace) (j : ℕ) (b : Bool) (new : Slots) (told' : Option ChildTrace) → IsDropped b slots j told new told' → told ≡ Some t → HasTickets slots t → IsKeptTo t new told'
  drop_keeps t slots told j false new told' (same, told_same) tells has = unchanged t new told' (told_same ∙ tells) (subst (λ m. HasTickets m t) (sym same) has)
  drop_keeps t slots told j true new told' (kept, finishes, gone) tells has =
      let (one, rests) = finish_keeps t slots told j kept told' (slot_in slots j).progress refl finishes tells has in
      record {
        now = one.now;
        tells = one.tells;
        orders = one.orders;
        tickets = subst (λ m. HasTickets m one.now) (sym gone) (laws.releases kept j one.now one.tickets rests);
        balanced = one.balanced;
      }

  pub drops_keep : (t : ChildTrace) (waits : Bool) (slots : Slots) (told : Option ChildTrace) (ds : List Dropping) (new : Slots) (told' : Option ChildTrace) → AreDroppings waits slots told ds new told' → told ≡ Some t → HasTickets slots t → IsKeptTo t new told'
  drops_keep t waits slots told [] new told' (same, told_same) tells has = unchanged t new told' (told_same ∙ tells) (subst (λ m. HasTickets m t) (sym same) has)
  drops_keep t waits slots told (d ∷ ds) new told' ((look, dropped), drops) tells has =
      let looked = look_keeps t slots (is_looked_at waits slots d.look.job) told d.look look tells has in
      let one = kept_on t slots d.slots d.look.told d.told looked (drop_keeps looked.now slots d.look.told d.look.job d.look.ripe d.slots d.told dropped looked.tells looked.tickets) in
      kept_on t d.slots new d.told told' one (drops_keep one.now waits d.slots d.told ds new told' drops one.tells one.tickets)

  -- Children are only finished.
  pub finishings_keep : (t : ChildTrace) (slots : Slots) (told : Option ChildTrace) (fs : List Finishing) (new : Slots) (told' : Option ChildTrace) → AreFinishings slots told fs new told' → told ≡ Some t → HasTickets slots t → IsKeptTo t new told'
  finishings_keep t slots told [] new told' (same, told_same) tells has = unchanged t new told' (told_same ∙ tells) (subst (λ m. HasTickets m t) (sym same) has)
  finishings_keep t slots told (f ∷ fs) new told' (finishes, others) tells has =
      let (one, rests) = finish_keeps t slots told f.job f.slots f.told (slot_in slots f.job).progress refl finishes tells has in
      kept_on t f.slots new f.told told' one (finishings_keep one.now f.slots f.told fs new told' others one.tells one.tickets)
