-- One more slot, or a gone slot that is taken again.
use Rattle.std.proofs.Common.{◌<◌, length, sym, ap, subst, arith}
use Rattle.queue_sched.specs.WaitingIndex.{LacksJob}
use Rattle.queue_sched.specs.OrderSlots.{items_of}
use Rattle.queue_sched.specs.OrderedEntries.{IsMore}
use Rattle.queue_sched.proofs.More.{counts_one_more}
use Rattle.queue_sched.proofs.SlotLists.{items_in_order}
use Rattle.queue_sched.proofs.waiting_entries.WaitingEntries.put.Goals as goal

pub put_slot-requires-clause-order : goal.put_slot-requires-clause-order
put_slot-requires-clause-order c = c.free_slot.ensures.order c.self.invariant.order

pub put_slot-requires-clause-room : goal.put_slot-requires-clause-room
put_slot-requires-clause-room c = c.free_slot.ensures.room (subst (λ w. length w.items < w.room) (sym c.self.view_is) c.requires.room)

pub put_slot-requires-clause-absent : goal.put_slot-requires-clause-absent
put_slot-requires-clause-absent c =
    subst (λ l. LacksJob l c.args.entry.id) (sym c.free_slot.ensures.items) (subst (λ w. LacksJob w.items c.args.entry.id) (sym c.self.view_is) c.requires.absent)

pub overflow_add-self : goal.overflow_add-self
overflow_add-self c =
    let room = subst (λ w. length w.items < w.room) (sym c.self.view_is) c.requires.room in
    let small = c.self.inside.slots.small in
    let count = c.self.invariant.count in
    omega (arith, room, small, count)

pub invariant_of-self : goal.invariant_of-self
invariant_of-self c =
    let kept = c.self.invariant in
    let more = counts_one_more c.args.entry _ _ c.put_slot.ensures.items in
    let same = ap length c.free_slot.ensures.items in
    record {
      order = c.put_slot.ensures.order;
      count = omega (arith, more, same, kept.count);
      few = omega (arith, c.put_slot.ensures.few, c.free_slot.ensures.few, kept.few);
      first = c.put_slot.ensures.first (c.free_slot.ensures.first kept.first);
    }

pub returns-clause-items : goal.returns-clause-items
returns-clause-items c =
    let new = items_of c.put_slot.new.slots.items in
    subst (λ w. IsMore c.args.entry w.items new) c.self.view_is (subst (λ l. IsMore c.args.entry l new) c.free_slot.ensures.items c.put_slot.ensures.items)

pub returns-clause-order : goal.returns-clause-order
returns-clause-order c = items_in_order _ c.put_slot.ensures.order
