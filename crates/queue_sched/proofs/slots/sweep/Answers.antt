-- The closure returns whether the slot is not gone.
use Rattle.std.proofs.Common.{rules}
use Rattle.std.proofs.lemmas.List.Elements.{filter_from_retain}
use Rattle.queue_sched.specs.OrderSlots.{is_there}
use Rattle.queue_sched.proofs.slots.sweep.Goals as goal

pub returns-clause-items : goal.returns-clause-items
returns-clause-items c = filter_from_retain _ is_there (λ f s b g called. search rules) _ _ _ c.retain.ensures.filtered
