-- By each effect in order.
use Rattle.row_effects.proofs.Order.{stays_in_order}
use Rattle.row_effects.proofs.laws.queues_stay_in_order.Goals as goal

pub returns-clause-stays : goal.returns-clause-stays
returns-clause-stays c = stays_in_order
