use Rattle.job_table.proofs.Stages.{spent_after_all, in_after_all, in_unspent, spent_by_end}
use Rattle.job_table.proofs.Legal.{keeps_each}
use Rattle.spool_types.specs.declared.event.Event.TheVariants.{Stage}
use Rattle.job_table.proofs.laws.spent_stages_stay_spent.Goals as goal

pub returns-clause-stays : goal.returns-clause-stays
returns-clause-stays c = λ s k events. spent_after_all c.queues_stay_in_order.ensures.stays events s k

pub returns-clause-left : goal.returns-clause-left
returns-clause-left c = λ s k events. in_after_all c.queues_stay_in_order.ensures.stays events s k

pub returns-clause-either : goal.returns-clause-either
returns-clause-either c = in_unspent

pub returns-clause-ended : goal.returns-clause-ended
returns-clause-ended c = λ s e legal. spent_by_end s e (keeps_each c.queues_stay_in_order.ensures.stays (Stage e)) legal
