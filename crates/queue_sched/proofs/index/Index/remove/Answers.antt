-- One less entry.
use Rattle.std.proofs.Common.{◌≡◌, ◌+◌, ◌↔◌, length, refl, sym, subst, arith}
use Rattle.std.specs.List.{Contains}
use Rattle.queue_sched.specs.WaitingIndex.{InOrder, is_startable}
use Rattle.queue_sched.proofs.More.{has_one_less, counts_one_more, has_passed, drop_among, in_order_passed}
use Rattle.queue_sched.proofs.index.Index.remove.Goals as goal

pub take-requires : goal.take-requires
take-requires c = subst (λ w. Contains w.items c.args.entry) (sym c.self.view_is) c.requires.there

pub take_ready-requires : goal.take_ready-requires
take_ready-requires c = λ passes.
    let a = c.self.inside in
    subst (λ l. Contains l c.args.entry) (sym c.self.invariant.ready)
    ((has_passed (is_startable a.moment) a.entries.items c.args.entry).1 (subst (λ w. Contains w.items c.args.entry) (sym c.self.view_is) c.requires.there, passes))

pub invariant_of-self : goal.invariant_of-self
invariant_of-self c =
    let a = c.self.inside in
    let xs = a.entries.items in
    let e = c.args.entry in
    let p = is_startable a.moment in
    let is = c.take.ensures.items in
    let order = c.self.invariant.order in
    let order' = c.take_ready.ensures.order (subst InOrder (sym c.self.invariant.ready) (in_order_passed p xs order)) in
    record {
      order = c.take.ensures.order;
      ready = drop_among p e _ xs is order a.ready.items _ c.self.invariant.ready c.take_ready.ensures.taken c.take_ready.ensures.same order';
      fits = omega (arith, counts_one_more e _ xs is, c.self.invariant.fits);
      room_of_entries = omega (arith, c.self.invariant.room_of_entries, c.take.ensures.room);
      room_of_ready = omega (arith, c.self.invariant.room_of_ready, c.take_ready.ensures.room);
      due = λ f there. c.self.invariant.due f ((has_one_less e _ xs is order f).0 there).0;
    }

pub returns-clause-gone : goal.returns-clause-gone
returns-clause-gone c = λ there. ((has_one_less _ _ _ c.take.ensures.items c.self.invariant.order c.args.entry).0 there).1 refl

pub returns-clause-items : goal.returns-clause-items
returns-clause-items c = λ f.
    subst (λ w. Contains c.take.new.self.items f ↔ (Contains w.items f × ¬ (f ≡ c.args.entry))) c.self.view_is (has_one_less _ _ _ c.take.ensures.items c.self.invariant.order f)

pub returns-clause-count : goal.returns-clause-count
returns-clause-count c =
    subst (λ w. length c.take.new.self.items + 1 ≡ length w.items) c.self.view_is (sym (counts_one_more _ _ _ c.take.ensures.items))

pub returns-clause-spare : goal.returns-clause-spare
returns-clause-spare c = omega (arith, counts_one_more _ _ _ c.take.ensures.items, c.self.invariant.fits)
