-- The entry takes a gone slot, or a new one.
use Rattle.std.proofs.Common.{rules, ◌≡◌, get_or, sym, subst}
use Rattle.std.proofs.lemmas.List.{get_or_default}
use Rattle.std.specs.List.{insert}
use Rattle.queue_sched.specs.OrderSlots.{items_of, there_of, InSlotOrder}
use Rattle.queue_sched.specs.OrderedEntries.{IsMore}
use Rattle.queue_sched.proofs.SlotLists.{put_held, put_open, is_gone, order_held, order_open}
use Rattle.queue_sched.proofs.slots.put_slot.Goals as goal

pub returns-then-is_held-clause-items : goal.returns-then-is_held-clause-items
returns-then-is_held-clause-items c =
    let ss = c.args.slots.now.items in
    let e = c.args.entry in
    let at = c.place_of-at.result in
    let held = c.is_held.ensures.held c.if-is_held.true in
    let s = get_or ss at (there_of e) in
    let here : get_or ss at s ≡ s = get_or_default ss at s (there_of e) held.0 in
    put_held ss at held.0 s e here (is_gone ss e at held.0 c.requires.absent c.place_of-at.ensures.behind held.1 s here)

pub returns-then-is_held-clause-order : goal.returns-then-is_held-clause-order
returns-then-is_held-clause-order c =
    let held = c.is_held.ensures.held c.if-is_held.true in
    order_held c.args.slots.now.items c.place_of-at.result (there_of c.args.entry) held.0 c.requires.order c.place_of-at.ensures.before c.place_of-at.ensures.behind

pub returns-else-is_held-clause-items : goal.returns-else-is_held-clause-items
returns-else-is_held-clause-items c =
    let ss = c.args.slots.now.items in
    let e = c.args.entry in
    let at = c.place_of-at.result in
    let is : c.insert.new.self.items ≡ insert ss at (there_of e) = search rules in
    subst (λ l. IsMore e (items_of ss) (items_of l)) (sym is) (put_open ss at e)

pub returns-else-is_held-clause-order : goal.returns-else-is_held-clause-order
returns-else-is_held-clause-order c =
    let ss = c.args.slots.now.items in
    let e = c.args.entry in
    let at = c.place_of-at.result in
    let is : c.insert.new.self.items ≡ insert ss at (there_of e) = search rules in
    subst InSlotOrder (sym is)
    (order_open ss e c.requires.order at c.place_of-at.ensures.in_range c.place_of-at.ensures.before c.place_of-at.ensures.behind (c.is_held.ensures.open c.if-is_held.false))
