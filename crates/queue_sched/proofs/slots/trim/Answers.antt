-- One less slot.
use Rattle.std.proofs.Common.{refl}
use Rattle.queue_sched.proofs.SlotLists.{not_trimmed}
use Rattle.queue_sched.proofs.slots.trim.Goals as goal

pub loop-slot-init : goal.loop-slot-init
loop-slot-init c = (not_trimmed _, refl)
