-- One more entry.
use Rattle.std.proofs.Common.{◌≡◌, ◌+◌, ◌<◌, ◌⊎◌, ◌↔◌, length, true, false, sym, ap, subst, ◌∙◌, arith}
use Rattle.std.specs.List.{Contains}
use Rattle.queue_sched.specs.WaitingIndex.{LacksJob, is_startable}
use Rattle.queue_sched.proofs.Due.{with_ready, with_waiting}
use Rattle.queue_sched.proofs.More.{has_it, has_one_more, counts_one_more, has_passed, passed_over, put_among, fewer}
use Rattle.queue_sched.proofs.index.Index.insert.Goals as goal

pub put-requires-clause-room : goal.put-requires-clause-room
put-requires-clause-room c =
    let spare = subst (λ w. length w.items < w.room) (sym c.self.view_is) c.requires.room in
    omega (arith, spare, c.self.invariant.room_of_entries)

pub put-requires-clause-absent : goal.put-requires-clause-absent
put-requires-clause-absent c = subst (λ w. LacksJob w.items c.args.entry.id) (sym c.self.view_is) c.requires.absent

pub put-requires-then-is_startable-clause-room : goal.put-requires-then-is_startable-clause-room
put-requires-then-is_startable-clause-room c =
    let a = c.self.inside in
    let spare = subst (λ w. length w.items < w.room) (sym c.self.view_is) c.requires.room in
    omega (arith, spare, c.self.invariant.room_of_ready, ap length c.self.invariant.ready, fewer (is_startable a.moment) a.entries.items)

pub put-requires-then-is_startable-clause-absent : goal.put-requires-then-is_startable-clause-absent
put-requires-then-is_startable-clause-absent c = λ e there.
    let a = c.self.inside in
    let lacks = subst (λ w. LacksJob w.items c.args.entry.id) (sym c.self.view_is) c.requires.absent in
    lacks e ((has_passed (is_startable a.moment) a.entries.items e).0 (subst (λ l. Contains l e) c.self.invariant.ready there)).0

pub invariant_of-self : goal.invariant_of-self
invariant_of-self c =
    let a = c.self.inside in
    let xs = a.entries.items in
    let e = c.args.entry in
    let is = c.put.ensures.items in
    let passes : is_startable a.moment e ≡ true = sym c.is_startable.ensures ∙ c.if-is_startable.true in
    let spare = subst (λ w. length w.items < w.room) (sym c.self.view_is) c.requires.room in
    record {
      order = c.put.ensures.order;
      ready = put_among (is_startable a.moment) e xs _ is c.put.ensures.order a.ready.items _ c.self.invariant.ready c.put-then-is_startable.ensures.items c.put-then-is_startable.ensures.order passes;
      fits = omega (arith, counts_one_more e xs _ is, spare);
      room_of_entries = omega (arith, c.self.invariant.room_of_entries, c.put.ensures.room);
      room_of_ready = omega (arith, c.self.invariant.room_of_ready, c.put-then-is_startable.ensures.room);
      due = with_ready xs _ e a.moment (λ f there. (has_one_more e xs _ is f).0 there) a.due c.self.invariant.due passes;
    }

pub invariant_of-self-else-is_startable : goal.invariant_of-self-else-is_startable
invariant_of-self-else-is_startable c =
    let a = c.self.inside in
    let xs = a.entries.items in
    let e = c.args.entry in
    let is = c.put.ensures.items in
    let fails : is_startable a.moment e ≡ false = sym c.is_startable.ensures ∙ c.if-is_startable.false in
    let spare = subst (λ w. length w.items < w.room) (sym c.self.view_is) c.requires.room in
    record {
      order = c.put.ensures.order;
      ready = c.self.invariant.ready ∙ passed_over (is_startable a.moment) e xs _ is c.put.ensures.order fails;
      fits = omega (arith, counts_one_more e xs _ is, spare);
      room_of_entries = omega (arith, c.self.invariant.room_of_entries, c.put.ensures.room);
      room_of_ready = c.self.invariant.room_of_ready;
      due = with_waiting xs _ e a.moment (λ f there. (has_one_more e xs _ is f).0 there) a.due c.self.invariant.due _ _ c.start.ensures fails c.sooner-self-inside.ensures;
    }

pub returns-then-is_startable-clause-there : goal.returns-then-is_startable-clause-there
returns-then-is_startable-clause-there c = has_it _ _ _ c.put.ensures.items

pub returns-else-is_startable-clause-there : goal.returns-else-is_startable-clause-there
returns-else-is_startable-clause-there c = has_it _ _ _ c.put.ensures.items

pub returns-then-is_startable-clause-items : goal.returns-then-is_startable-clause-items
returns-then-is_startable-clause-items c = λ f.
    subst (λ w. Contains c.put.new.self.items f ↔ (Contains w.items f ⊎ (f ≡ c.args.entry))) c.self.view_is (has_one_more _ _ _ c.put.ensures.items f)

pub returns-else-is_startable-clause-items : goal.returns-else-is_startable-clause-items
returns-else-is_startable-clause-items c = λ f.
    subst (λ w. Contains c.put.new.self.items f ↔ (Contains w.items f ⊎ (f ≡ c.args.entry))) c.self.view_is (has_one_more _ _ _ c.put.ensures.items f)

pub returns-then-is_startable-clause-count : goal.returns-then-is_startable-clause-count
returns-then-is_startable-clause-count c =
    subst (λ w. length c.put.new.self.items ≡ length w.items + 1) c.self.view_is (counts_one_more _ _ _ c.put.ensures.items)

pub returns-else-is_startable-clause-count : goal.returns-else-is_startable-clause-count
returns-else-is_startable-clause-count c =
    subst (λ w. length c.put.new.self.items ≡ length w.items + 1) c.self.view_is (counts_one_more _ _ _ c.put.ensures.items)
