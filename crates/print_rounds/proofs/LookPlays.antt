-- If nothing failed, the checks, ends and droppings of a tick are those of Script.
use Rattle.std.proofs.Common.{◌≡◌, ℕ, Bool, true, false, cond, List, [], ◌∷◌, map, Option, Some, None, refl, sym, ap, subst, ◌∙◌, append_assoc, append-nil}
use Rattle.std.specs.Cmp.{nat_cmp_total}
use Rattle.std.specs.Ordering.{nat_cmp, eq_by_cmp}
use Rattle.std.specs.FinMap as finite
use Rattle.spool_disk.specs.Disk.{DiskView}
use Rattle.spool_types.specs.declared.event.Event.TheVariants.{Stage}
use Rattle.spool_core.specs.OpenSpools.{OpenSpool}
use Rattle.child_pipeline.specs.StageSlots.{Slots, slot_in, with_progress, FinishesFrom, Waits, end_in}
use Rattle.child_pipeline.specs.Tickets.{HasTickets}
use Rattle.child_pipeline.specs.ChildTraces.{ChildTrace, Looks, HasLooked, after_finish}
use Rattle.child_pipeline.specs.declared.runner.Progress.{Progress}
use Rattle.child_pipeline.specs.declared.runner.Progress.TheVariants.{Ready, Running, Ended}
use Rattle.child_pipeline.specs.declared.runner.Slot.{Slot}
use Rattle.print_rounds.specs.Counts.{report_events, ending_events}
use Rattle.print_rounds.specs.RunStates.{RunState, run_state, Ending, AreEndings}
use Rattle.print_rounds.specs.Faultless.{AllTold}
use Rattle.print_rounds.specs.StageChecks.{Look, IsLookBy, AreLooks, ripe_in, Dropping, IsDropped, IsDropping, AreDroppings, runs}
use Rattle.print_rounds.specs.RoundScript.{Play, plays, play_end, waited_by}
use Rattle.print_rounds.specs.RoundTicks.{ripe_by, looked_by, ripe_among, looked_among, play_drop, dropped_if}
use Rattle.print_rounds.proofs.LaunchLaws.{some_of}
use Rattle.print_rounds.proofs.ReportLaws.{one_ended, play_past, play_after}
use Rattle.print_rounds.proofs.TickTickets.{TicketLaws, looks_keep, ends_keep, drops_keep, runs_as}

-- ## Checks

-- A check takes the next answer for a running child, and none otherwise.
one_look : (b : Bool) (t : ChildTrace) (told : Option ChildTrace) (l : Look) → told ≡ Some t → IsLookBy b told l → (l.ripe ≡ ripe_by b t) × (l.told ≡ Some (looked_by b t))
one_look true t told l tells is =
    let looked : HasLooked t l.ripe l.told = subst (λ o. Looks o l.ripe l.told) tells is in
    (looked.answer, looked.told)
one_look false t told l tells is = (is.0, is.1 ∙ tells)

-- The results of the checks, and the trace after them.
pub looks_played : (slots : Slots) (t : ChildTrace) (told : Option ChildTrace) (ls : List Look) (told' : Option ChildTrace) → told ≡ Some t → AreLooks false slots told ls told' → (ripe_in ls ≡ ripe_among slots t (map (λ l. l.job) ls)) × (told' ≡ Some (looked_among slots t (map (λ l. l.job) ls)))
looks_played slots t told [] told' tells same = (refl, same ∙ tells)
looks_played slots t told (l ∷ ls) told' tells (look, looks) =
    let b = runs slots l.job in
    let (ripe, next) = one_look b t told l tells look in
    let (more, last) = looks_played slots (looked_by b t) l.told ls told' next looks in
    let js = map (λ l. l.job) ls in (
      ap (λ c. cond c (l.job ∷ ripe_in ls) (ripe_in ls)) ripe ∙ ap (λ ks. cond (ripe_by b t) (l.job ∷ ks) ks) more,
      last,
    )

-- ## Ends

module _ {D : Type 0} (laws : TicketLaws) (device : DiskView D) where
  -- If each event was acknowledged and the slots have the tickets, the ends of stages are those of Script.
  pub ends_played : (p : Play) (sp : OpenSpool D) (es : List (Ending D)) (new : RunState D) → sp.state ≡ p.state → HasTickets p.slots p.told → AreEndings device (run_state sp p.slots (Some p.told)) es new → AllTold es
      → (t' : ChildTrace) × (new.told ≡ Some t') × HasTickets new.slots t' × (plays play_end p (map (λ e. e.job) es) ≡ play_after device p es new t')
  ends_played p sp [] new state has same told = (
    p.told,
    ap (λ (c : RunState D). c.told) same,
    subst (λ (c : RunState D). HasTickets c.slots p.told) (sym same) has,
    ap (λ s. record p { state = s }) (sym state)
        ∙ ap (λ (c : RunState D). record p { state = c.spool.state; slots = c.slots }) (sym same)
        ∙ ap (λ es. record p { state = new.spool.state; slots = new.slots; events = es }) (sym (append-nil p.events)),
  )
  ends_played p sp (e ∷ es) new state has ends told =
      let one = one_ended device p sp e state (has.running e.job) ends.0 told.0 in
      let keeps = ends_keep laws device p.told (run_state sp p.slots (Some p.told)) (e ∷ []) e.next (ends.0, refl) refl has in
      let has1 : HasTickets e.next.slots one.told = subst (λ t. HasTickets e.next.slots t) (some_of keeps.now one.told (sym keeps.tells ∙ one.tells)) keeps.tickets in
      let p1 : Play = play_past device p e one.told in
      let on : AreEndings device (run_state e.next.spool p1.slots (Some p1.told)) es new = subst (λ o. AreEndings device (run_state e.next.spool e.next.slots o) es new) one.tells ends.1 in
      let (t', tells, has2, more) = ends_played p1 e.next.spool es new refl has1 on told.1 in (
        t',
        tells,
        has2,
        ap (λ q. plays play_end q (map (λ e. e.job) es)) one.played
            ∙ more
            ∙ ap (λ events. record (play_after device p (e ∷ es) new t') { events = events }) (append_assoc p.events (report_events (Stage (end_in e.kept.slots e.job)) e.report) (ending_events es)),
      )

-- ## Droppings

gone_or : (b : Bool) (x : Slot ℕ) (o : Option (Slot ℕ)) → cond b None (cond b (Some x) o) ≡ cond b None o
gone_or true x o = refl
gone_or false x o = refl

-- Freeing a slot after storing it is the same as freeing it.
put_gone : (m : Slots) (j : ℕ) (x : Slot ℕ) → finite.remove (finite.insert m j x) j ≡ finite.remove m j
put_gone m j x = finite.same_map nat_cmp_total finite.nat_cmp-IsAntisymmetric (finite.remove (finite.insert m j x) j) (finite.remove m j) (λ k.
    let b = eq_by_cmp nat_cmp k j in
    finite.get-remove nat_cmp_total (finite.insert m j x) j k
    ∙ ap (cond b None) (finite.get-insert nat_cmp_total m j x k)
    ∙ gone_or b x (finite.get m k)
    ∙ sym (finite.get-remove nat_cmp_total m j k))

-- The effect of one dropping on a play.
record IsOneDropped (p : Play) (d : Dropping) : Type 0 where
  pub told : ChildTrace
  pub tells : d.told ≡ Some told
  pub played : play_drop p d.look.job ≡ record p { slots = d.slots; told = told }

module _ (p : Play) (d : Dropping) (t : ChildTrace) (has : HasTickets p.slots t) (tells : d.look.told ≡ Some t) where
  -- The play after the check.
  abbrev looked : Play
  looked = record p { told = t }

  abbrev j : ℕ
  j = d.look.job

  shown : (now : ChildTrace) → d.told ≡ Some now → dropped_if true looked j ≡ record p { slots = finite.remove p.slots j; told = now } → d.slots ≡ finite.remove p.slots j → (b : Bool) → b ≡ true → (now' : ChildTrace) × (d.told ≡ Some now') × (dropped_if b looked j ≡ record p { slots = d.slots; told = now' })
  shown now tells' played gone b is = (
    now,
    tells',
    ap (λ c. dropped_if c looked j) is ∙ played ∙ ap (λ m. record p { slots = m; told = now }) (sym gone),
  )

  -- A child that has ended is finished, and its slot freed.
  ripe_drop : (kept : Slots) (v : Progress ℕ) → (slot_in p.slots j).progress ≡ v → FinishesFrom v d.look.told p.slots j kept d.told → d.slots ≡ finite.remove kept j → (b : Bool) → b ≡ true → (now : ChildTrace) × (d.told ≡ Some now) × (dropped_if b looked j ≡ record p { slots = d.slots; told = now })
  ripe_drop kept (Ready input) at finishes gone = absurd finishes
  ripe_drop kept (Running n) at finishes gone =
      let fin : Waits (Some t) n p.slots j kept d.told = subst (λ o. Waits o n p.slots j kept d.told) tells finishes in
      let (finish_is, told_is) = fin.answer (has.running j n (runs_as p.slots j n at)) in
      shown (after_finish t n) told_is (ap (λ v. record (waited_by looked j v) { slots = finite.remove p.slots j }) at)
      (gone ∙ ap (λ m. finite.remove m j) fin.slots ∙ put_gone p.slots j (with_progress (slot_in p.slots j) (Ended fin.finish)))
  ripe_drop kept (Ended finish) at finishes gone =
      shown t (finishes.1 ∙ tells) (ap (λ v. record (waited_by looked j v) { slots = finite.remove p.slots j }) at) (gone ∙ ap (λ m. finite.remove m j) finishes.0)

  by_ripe : (b : Bool) → IsDropped b p.slots j d.look.told d.slots d.told → (c : Bool) → c ≡ b → (now : ChildTrace) × (d.told ≡ Some now) × (dropped_if c looked j ≡ record p { slots = d.slots; told = now })
  by_ripe false (same, told_is) c is = (t, told_is ∙ tells, ap (λ x. dropped_if x looked j) is ∙ ap (λ m. record p { slots = m; told = t }) (sym same))
  by_ripe true (kept, finishes, gone) c is = ripe_drop kept (slot_in p.slots j).progress refl finishes gone c is

one_dropped : (laws : TicketLaws) (p : Play) (d : Dropping) → HasTickets p.slots p.told → IsDropping false p.slots (Some p.told) d → IsOneDropped p d
one_dropped laws p d has (look, dropped) =
    let b = runs p.slots d.look.job in
    let (ripe, tells) = one_look b p.told (Some p.told) d.look refl look in
    let keeps = looks_keep laws p.told false p.slots (Some p.told) (d.look ∷ []) d.look.told (look, refl) refl has in
    let has1 : HasTickets p.slots (looked_by b p.told) = subst (λ t. HasTickets p.slots t) (some_of keeps.now (looked_by b p.told) (sym keeps.tells ∙ tells)) keeps.tickets in
    let (now, tells', played) = by_ripe p d (looked_by b p.told) has1 tells d.look.ripe dropped (ripe_by b p.told) (sym ripe) in
    record { told = now; tells = tells'; played = played }

-- The children whose jobs have left their stages are dropped as Script states.
pub drops_played : (laws : TicketLaws) (p : Play) (ds : List Dropping) (new : Slots) (told' : Option ChildTrace) → HasTickets p.slots p.told → AreDroppings false p.slots (Some p.told) ds new told'
    → (t' : ChildTrace) × (told' ≡ Some t') × (plays play_drop p (map (λ d. d.look.job) ds) ≡ record p { slots = new; told = t' })
drops_played laws p [] new told' has (same, tells) = (p.told, tells, ap (λ m. record p { slots = m }) (sym same))
drops_played laws p (d ∷ ds) new told' has (drop, drops) =
    let one = one_dropped laws p d has drop in
    let keeps = drops_keep laws p.told false p.slots (Some p.told) (d ∷ []) d.slots d.told (drop, (refl, refl)) refl has in
    let p1 : Play = record p { slots = d.slots; told = one.told } in
    let has1 : HasTickets d.slots one.told = subst (λ t. HasTickets d.slots t) (some_of keeps.now one.told (sym keeps.tells ∙ one.tells)) keeps.tickets in
    let (t', tells, more) = drops_played laws p1 ds new told' has1 (subst (λ o. AreDroppings false d.slots o ds new told') one.tells drops) in
    (t', tells, ap (λ q. plays play_drop q (map (λ d. d.look.job) ds)) one.played ∙ more)
