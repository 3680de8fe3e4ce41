-- One more slot.
use Rattle.std.proofs.Common.{ap, sym, ◌∙◌}
use Rattle.queue_sched.specs.OrderSlots.{items_of}
use Rattle.queue_sched.proofs.Due.{none_so_far, none_left}
use Rattle.queue_sched.proofs.SlotLoops.{due_passed, due_waiting, no_items}
use Rattle.queue_sched.proofs.slots.due_of.Goals as goal

pub loop-slot-init : goal.loop-slot-init
loop-slot-init c = none_so_far _ _ _ _ (ap items_of c.into_iter-slot-iterator.ensures.into_iter_gives.0)

pub loop-slot-preserved-then-is_waiting : goal.loop-slot-preserved-then-is_waiting
loop-slot-preserved-then-is_waiting c =
    due_waiting _ _ c.in-Some.slot.now _ _ _ c.in-Some.ensures.steps c.loop-slot.invariant (sym c.is_waiting.ensures ∙ c.if-is_waiting.true) _ _ c.start.ensures c.sooner-due.ensures

pub loop-slot-preserved : goal.loop-slot-preserved
loop-slot-preserved c =
    due_passed _ _ c.in-Some.slot.now _ _ _ c.in-Some.ensures.steps c.loop-slot.invariant (sym c.is_waiting.ensures ∙ c.if-is_waiting.false)

pub returns : goal.returns
returns c = none_left _ _ _ _ c.loop-slot.invariant (no_items _ c.in-None.ensures.steps.0)
