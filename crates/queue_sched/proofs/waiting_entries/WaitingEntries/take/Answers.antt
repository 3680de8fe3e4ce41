-- The slot is marked as gone, and gone slots may be deleted.
use Rattle.std.proofs.Common.{length, sym, ap, subst, arith}
use Rattle.std.specs.List.{Contains}
use Rattle.queue_sched.specs.OrderSlots.{items_of}
use Rattle.queue_sched.specs.OrderedEntries.{IsMore}
use Rattle.queue_sched.proofs.More.{counts_one_more}
use Rattle.queue_sched.proofs.SlotLists.{items_in_order}
use Rattle.queue_sched.proofs.waiting_entries.WaitingEntries.take.Goals as goal

pub take_slot-requires-clause-order : goal.take_slot-requires-clause-order
take_slot-requires-clause-order c = c.self.invariant.order

pub take_slot-requires-clause-there : goal.take_slot-requires-clause-there
take_slot-requires-clause-there c = subst (λ w. Contains w.items c.args.entry.now) (sym c.self.view_is) c.requires

pub overflow_sub-self : goal.overflow_sub-self
overflow_sub-self c = omega (arith, counts_one_more c.args.entry.now _ _ c.take_slot.ensures.items, c.self.invariant.count)

pub let_go-requires : goal.let_go-requires
let_go-requires c = omega (arith, counts_one_more c.args.entry.now _ _ c.take_slot.ensures.items, c.self.invariant.count)

pub invariant_of-self : goal.invariant_of-self
invariant_of-self c =
    let less = counts_one_more c.args.entry.now _ _ c.take_slot.ensures.items in
    let same = ap length c.let_go.ensures.items in
    record {
      order = c.let_go.ensures.order c.take_slot.ensures.order;
      count = omega (arith, less, same, c.self.invariant.count);
      few = c.let_go.ensures.few;
      first = c.let_go.ensures.first;
    }

pub returns-clause-items : goal.returns-clause-items
returns-clause-items c =
    subst (λ w. IsMore c.args.entry.now (items_of c.let_go.new.slots.items) w.items) c.self.view_is
    (subst (λ l. IsMore c.args.entry.now l (items_of c.self.inside.slots.items)) (sym c.let_go.ensures.items) c.take_slot.ensures.items)

pub returns-clause-order : goal.returns-clause-order
returns-clause-order c = items_in_order _ (c.let_go.ensures.order c.take_slot.ensures.order)
