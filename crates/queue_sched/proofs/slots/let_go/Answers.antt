-- The slots after all gone ones were deleted.
use Rattle.std.proofs.Common.{length, sym, ap, subst, ◌∙◌, arith}
use Rattle.queue_sched.specs.OrderSlots.{items_of, InSlotOrder, IsFirstThere}
use Rattle.queue_sched.proofs.SlotLists.{few_items, swept, swept_count, swept_first, swept_in_order}
use Rattle.queue_sched.proofs.slots.let_go.Goals as goal

pub overflow_sub-len : goal.overflow_sub-len
overflow_sub-len c = omega (arith, c.requires, ap length c.trim.ensures.items, few_items c.trim.new.slots.items, c.len.ensures, c.trim.new.slots.ok.0)

pub returns-then-len-clause-items : goal.returns-then-len-clause-items
returns-then-len-clause-items c = ap items_of c.sweep.ensures.items ∙ swept c.trim.new.slots.items ∙ c.trim.ensures.items

pub returns-then-len-clause-order : goal.returns-then-len-clause-order
returns-then-len-clause-order c = λ order. subst InSlotOrder (sym c.sweep.ensures.items) (swept_in_order c.trim.new.slots.items (c.trim.ensures.order order))

pub returns-then-len-clause-first : goal.returns-then-len-clause-first
returns-then-len-clause-first c = subst IsFirstThere (sym c.sweep.ensures.items) (swept_first c.trim.new.slots.items)

pub returns-then-len-clause-few : goal.returns-then-len-clause-few
returns-then-len-clause-few c = omega (arith, c.requires, ap length c.sweep.ensures.items, swept_count c.trim.new.slots.items, ap length c.trim.ensures.items)
