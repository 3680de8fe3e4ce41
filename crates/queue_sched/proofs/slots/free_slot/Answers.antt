-- The slots after all gone ones were deleted.
use Rattle.std.proofs.Common.{length, sym, ap, subst, ◌∙◌, arith}
use Rattle.queue_sched.specs.OrderSlots.{items_of, InSlotOrder, IsFirstThere}
use Rattle.queue_sched.proofs.SlotLists.{swept, swept_count, swept_first, swept_in_order, few_items}
use Rattle.queue_sched.proofs.slots.free_slot.Goals as goal

pub returns-then-len-capacity-clause-items : goal.returns-then-len-capacity-clause-items
returns-then-len-capacity-clause-items c = ap items_of c.sweep.ensures.items ∙ swept c.args.slots.now.items

pub returns-then-len-capacity-clause-order : goal.returns-then-len-capacity-clause-order
returns-then-len-capacity-clause-order c = λ order. subst InSlotOrder (sym c.sweep.ensures.items) (swept_in_order c.args.slots.now.items order)

pub returns-then-len-capacity-clause-first : goal.returns-then-len-capacity-clause-first
returns-then-len-capacity-clause-first c = λ _. subst IsFirstThere (sym c.sweep.ensures.items) (swept_first c.args.slots.now.items)

pub returns-then-len-capacity-clause-few : goal.returns-then-len-capacity-clause-few
returns-then-len-capacity-clause-few c = omega (arith, ap length c.sweep.ensures.items, swept_count c.args.slots.now.items, few_items c.args.slots.now.items)

pub returns-then-len-capacity-clause-room : goal.returns-then-len-capacity-clause-room
returns-then-len-capacity-clause-room c = λ room. omega (arith, room, ap length c.sweep.ensures.items, swept_count c.args.slots.now.items, c.sweep.ensures.capacity)
