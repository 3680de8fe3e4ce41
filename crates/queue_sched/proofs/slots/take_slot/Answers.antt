-- The slot of the entry is marked as gone.
use Rattle.queue_sched.proofs.SlotLists.{gone_of, order_same_turn, stands, take_marked}
use Rattle.std.proofs.Common.{refl, arith}
use Rattle.queue_sched.specs.OrderSlots.{there_of}
use Rattle.queue_sched.proofs.slots.take_slot.Goals as goal

pub returns-clause-items : goal.returns-clause-items
returns-clause-items c =
    let ss = c.args.slots.now.items in
    let e = c.args.entry.now in
    let at = c.place_of-at.result in
    let it = stands ss e c.requires.order at c.place_of-at.ensures.in_range c.place_of-at.ensures.before c.place_of-at.ensures.behind c.requires.there in
    take_marked ss at it.0 e it.1

pub returns-clause-order : goal.returns-clause-order
returns-clause-order c =
    let ss = c.args.slots.now.items in
    let e = c.args.entry.now in
    let at = c.place_of-at.result in
    let it = stands ss e c.requires.order at c.place_of-at.ensures.in_range c.place_of-at.ensures.before c.place_of-at.ensures.behind c.requires.there in
    order_same_turn ss at (gone_of e) it.0 c.requires.order (there_of e) it.1 refl refl refl

pub index_mut-requires : goal.index_mut-requires
index_mut-requires c =
    let ss = c.args.slots.now.items in
    let e = c.args.entry.now in
    let at = c.place_of-at.result in
    let it = stands ss e c.requires.order at c.place_of-at.ensures.in_range c.place_of-at.ensures.before c.place_of-at.ensures.behind c.requires.there in
    let ok = c.args.slots.now.ok.0 in
    let inside = it.0 in
    omega (arith, ok, inside)
