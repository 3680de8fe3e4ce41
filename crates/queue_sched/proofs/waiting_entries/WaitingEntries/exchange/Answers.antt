-- The slot has the other entry.
use Rattle.std.proofs.Common.{sym, subst, arith}
use Rattle.std.specs.List.{Contains}
use Rattle.queue_sched.specs.OrderSlots.{items_of}
use Rattle.queue_sched.specs.OrderedEntries.{IsExchange}
use Rattle.queue_sched.proofs.More.{as_many}
use Rattle.queue_sched.proofs.SlotLists.{items_in_order}
use Rattle.queue_sched.proofs.waiting_entries.WaitingEntries.exchange.Goals as goal

pub exchange_slot-requires-clause-order : goal.exchange_slot-requires-clause-order
exchange_slot-requires-clause-order c = c.self.invariant.order

pub exchange_slot-requires-clause-there : goal.exchange_slot-requires-clause-there
exchange_slot-requires-clause-there c = subst (λ w. Contains w.items c.args.from.now) (sym c.self.view_is) c.requires.there

pub invariant_of-self : goal.invariant_of-self
invariant_of-self c =
    let kept = c.self.invariant in
    let many = as_many c.args.from.now c.args.to _ _ c.exchange_slot.ensures.items in
    record {
      order = c.exchange_slot.ensures.order;
      count = omega (arith, many, kept.count);
      few = omega (arith, c.exchange_slot.ensures.count, kept.few);
      first = c.exchange_slot.ensures.first kept.first;
    }

pub returns-clause-items : goal.returns-clause-items
returns-clause-items c = subst (λ w. IsExchange c.args.from.now c.args.to w.items (items_of c.exchange_slot.new.slots.items)) c.self.view_is c.exchange_slot.ensures.items

pub returns-clause-order : goal.returns-clause-order
returns-clause-order c = items_in_order _ c.exchange_slot.ensures.order
