-- The slot has the other entry.
use Rattle.std.proofs.Common.{arith}
use Rattle.queue_sched.specs.OrderSlots.{there_of}
use Rattle.queue_sched.proofs.SlotLists.{exchanged, first_set, order_same_turn, stands}
use Rattle.std.proofs.Common.{refl}
use Rattle.queue_sched.proofs.slots.exchange_slot.Goals as goal

pub returns-clause-items : goal.returns-clause-items
returns-clause-items c =
    let ss = c.args.slots.now.items in
    let e = c.args.from.now in
    let at = c.place_of-at.result in
    let it = stands ss e c.requires.order at c.place_of-at.ensures.in_range c.place_of-at.ensures.before c.place_of-at.ensures.behind c.requires.there in
    exchanged ss at it.0 e c.args.to it.1

pub returns-clause-order : goal.returns-clause-order
returns-clause-order c =
    let ss = c.args.slots.now.items in
    let e = c.args.from.now in
    let at = c.place_of-at.result in
    let it = stands ss e c.requires.order at c.place_of-at.ensures.in_range c.place_of-at.ensures.before c.place_of-at.ensures.behind c.requires.there in
    order_same_turn ss at (there_of c.args.to) it.0 c.requires.order (there_of e) it.1 c.requires.turn.0 c.requires.turn.1 c.requires.turn.2

pub returns-clause-first : goal.returns-clause-first
returns-clause-first c = λ first. first_set c.args.slots.now.items c.place_of-at.result (there_of c.args.to) refl first

pub index_mut-requires : goal.index_mut-requires
index_mut-requires c =
    let ss = c.args.slots.now.items in
    let e = c.args.from.now in
    let at = c.place_of-at.result in
    let it = stands ss e c.requires.order at c.place_of-at.ensures.in_range c.place_of-at.ensures.before c.place_of-at.ensures.behind c.requires.there in
    let ok = c.args.slots.now.ok.0 in
    let inside = it.0 in
    omega (arith, ok, inside)
