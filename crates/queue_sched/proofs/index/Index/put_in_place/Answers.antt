-- An entry is replaced by another one.
use Rattle.std.proofs.Common.{◌≡◌, ◌⊎◌, ◌↔◌, length, true, false, sym, ap, subst, ◌∙◌, arith}
use Rattle.std.specs.List.{Contains, filter}
use Rattle.queue_sched.specs.WaitingIndex.{InOrder, is_startable}
use Rattle.queue_sched.specs.declared.entry.Entry.{Entry}
use Rattle.queue_sched.proofs.Due.{with_ready, with_waiting}
use Rattle.queue_sched.proofs.More.{as_many, counts_one_more, drop_among, fewer, has_exchanged, has_one_less, has_one_more, has_passed, in_order_passed, passed_over, put_among}
use Rattle.queue_sched.proofs.index.Index.put_in_place.Goals as goal
use Rattle.queue_sched.proofs.index.Index.put_in_place.Goals.{After-take_ready}

pub exchange-requires-clause-there : goal.exchange-requires-clause-there
exchange-requires-clause-there c = subst (λ w. Contains w.items c.args.from) (sym c.self.view_is) c.requires.there

pub exchange-requires-clause-turn : goal.exchange-requires-clause-turn
exchange-requires-clause-turn c = (sym c.requires.turn.0, sym c.requires.turn.1, c.requires.own)

pub take_ready-requires : goal.take_ready-requires
take_ready-requires c = λ passes.
    let a = c.self.inside in
    subst (λ l. Contains l c.args.from) (sym c.self.invariant.ready)
    ((has_passed (is_startable a.moment) a.entries.items c.args.from).1 (subst (λ w. Contains w.items c.args.from) (sym c.self.view_is) c.requires.there, passes))

-- The remaining startable entries.
left : (c : After-take_ready) → c.take_ready.new.self.items ≡ filter (is_startable c.self.inside.moment) c.exchange.ensures.items.rest
left c =
    let a = c.self.inside in
    let xs = a.entries.items in
    let p = is_startable a.moment in
    let order = c.self.invariant.order in
    let order' = c.take_ready.ensures.order (subst InOrder (sym c.self.invariant.ready) (in_order_passed p xs order)) in
    drop_among p c.args.from _ xs c.exchange.ensures.items.was order a.ready.items _ c.self.invariant.ready c.take_ready.ensures.taken c.take_ready.ensures.same order'

pub put-requires-clause-room : goal.put-requires-clause-room
put-requires-clause-room c =
    let a = c.self.inside in
    let xs = a.entries.items in
    let was = c.exchange.ensures.items.was in
    let rest = c.exchange.ensures.items.rest in
    let ready = ap length (left (goal.at.put-requires-clause-room c).After-take_ready) in
    omega (arith, ready, fewer (is_startable a.moment) rest, counts_one_more c.args.from rest xs was, c.self.invariant.fits, c.self.invariant.room_of_ready, c.take_ready.ensures.room)

pub put-requires-clause-absent : goal.put-requires-clause-absent
put-requires-clause-absent c = λ e there same.
    let a = c.self.inside in
    let xs = a.entries.items in
    let is = c.exchange.ensures.items in
    let only = subst (λ w. (f : Entry) → Contains w.items f → f.id ≡ c.args.from.id → f ≡ c.args.from) (sym c.self.view_is) c.requires.only in
    let rest = (has_passed (is_startable a.moment) is.rest e).0 (subst (λ l. Contains l e) (left (goal.at.put-requires-clause-absent c).After-take_ready) there) in
    let old = (has_one_less c.args.from is.rest xs is.was c.self.invariant.order e).0 rest.0 in
    old.1 (only e old.0 (same ∙ c.requires.own))

pub invariant_of-self : goal.invariant_of-self
invariant_of-self c =
    let a = c.self.inside in
    let xs = a.entries.items in
    let from = c.args.from in
    let to = c.args.to in
    let p = is_startable a.moment in
    let is = c.exchange.ensures.items in
    let order = c.self.invariant.order in
    let order' = c.exchange.ensures.order in
    let passes : is_startable a.moment to ≡ true = sym c.is_startable.ensures ∙ c.if-is_startable.true in
    record {
      order = order';
      ready = put_among p to is.rest _ is.is order' _ _ (left (goal.at.invariant_of-self c).After-take_ready) c.put.ensures.items c.put.ensures.order passes;
      fits = omega (arith, as_many from to xs _ is, c.self.invariant.fits);
      room_of_entries = omega (arith, c.self.invariant.room_of_entries, c.exchange.ensures.room);
      room_of_ready = omega (arith, c.self.invariant.room_of_ready, c.take_ready.ensures.room, c.put.ensures.room);
      due = with_ready is.rest _ to a.moment (λ f there. (has_one_more to is.rest _ is.is f).0 there) a.due
          (λ f there. c.self.invariant.due f ((has_one_less from is.rest xs is.was order f).0 there).0) passes;
    }

pub invariant_of-self-else-is_startable : goal.invariant_of-self-else-is_startable
invariant_of-self-else-is_startable c =
    let a = c.self.inside in
    let xs = a.entries.items in
    let from = c.args.from in
    let to = c.args.to in
    let p = is_startable a.moment in
    let is = c.exchange.ensures.items in
    let order = c.self.invariant.order in
    let order' = c.exchange.ensures.order in
    let fails : is_startable a.moment to ≡ false = sym c.is_startable.ensures ∙ c.if-is_startable.false in
    record {
      order = order';
      ready = left (goal.at.invariant_of-self-else-is_startable c).After-take_ready ∙ passed_over p to is.rest _ is.is order' fails;
      fits = omega (arith, as_many from to xs _ is, c.self.invariant.fits);
      room_of_entries = omega (arith, c.self.invariant.room_of_entries, c.exchange.ensures.room);
      room_of_ready = omega (arith, c.self.invariant.room_of_ready, c.take_ready.ensures.room);
      due = with_waiting is.rest _ to a.moment (λ f there. (has_one_more to is.rest _ is.is f).0 there) a.due
          (λ f there. c.self.invariant.due f ((has_one_less from is.rest xs is.was order f).0 there).0) _ _ c.start.ensures fails c.sooner-self-inside.ensures;
    }

pub returns-then-is_startable-clause-items : goal.returns-then-is_startable-clause-items
returns-then-is_startable-clause-items c = λ f.
    subst (λ w. Contains c.exchange.new.self.items f ↔ ((Contains w.items f × ¬ (f ≡ c.args.from)) ⊎ (f ≡ c.args.to))) c.self.view_is
    (has_exchanged _ _ _ _ c.exchange.ensures.items c.self.invariant.order f)

pub returns-then-is_startable-clause-count : goal.returns-then-is_startable-clause-count
returns-then-is_startable-clause-count c =
    subst (λ w. length c.exchange.new.self.items ≡ length w.items) c.self.view_is (as_many _ _ _ _ c.exchange.ensures.items)

pub returns-else-is_startable-clause-items : goal.returns-else-is_startable-clause-items
returns-else-is_startable-clause-items c = λ f.
    subst (λ w. Contains c.exchange.new.self.items f ↔ ((Contains w.items f × ¬ (f ≡ c.args.from)) ⊎ (f ≡ c.args.to))) c.self.view_is
    (has_exchanged _ _ _ _ c.exchange.ensures.items c.self.invariant.order f)

pub returns-else-is_startable-clause-count : goal.returns-else-is_startable-clause-count
returns-else-is_startable-clause-count c =
    subst (λ w. length c.exchange.new.self.items ≡ length w.items) c.self.view_is (as_many _ _ _ _ c.exchange.ensures.items)
