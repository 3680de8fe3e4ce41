-- One more slot.
use Rattle.std.proofs.Common.{ap, sym, ◌∙◌}
use Rattle.queue_sched.specs.OrderSlots.{items_of}
use Rattle.queue_sched.proofs.SlotLists.{all_left}
use Rattle.queue_sched.proofs.SlotLoops.{sought_here, sought_none, sought_on}
use Rattle.queue_sched.proofs.slots.find.Goals as goal

pub loop-slot-init : goal.loop-slot-init
loop-slot-init c = all_left _ _ _ (ap items_of c.into_iter-slot-iterator.ensures.into_iter_gives.0)

pub loop-slot-preserved : goal.loop-slot-preserved
loop-slot-preserved c =
    sought_on _ _ c.in-Some.slot.now _ _ c.in-Some.ensures.steps c.loop-slot.invariant (sym c.is_of.ensures ∙ c.if-is_of.false)

pub returns-then-is_of-clause-found : goal.returns-then-is_of-clause-found
returns-then-is_of-clause-found c =
    sought_here _ _ c.in-Some.slot.now _ _ c.in-Some.ensures.steps c.loop-slot.invariant (sym c.is_of.ensures ∙ c.if-is_of.true)

pub returns-clause-absent : goal.returns-clause-absent
returns-clause-absent c = λ _. sought_none _ _ _ c.loop-slot.invariant c.in-None.ensures.steps.0
