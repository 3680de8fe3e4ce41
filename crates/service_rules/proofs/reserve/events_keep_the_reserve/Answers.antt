use Rattle.service_rules.proofs.Reserving.{checkpoint_keeps, other_keeps, taken_keeps}
use Rattle.service_rules.proofs.reserve.events_keep_the_reserve.Goals as goal

pub returns-clause-taken : goal.returns-clause-taken
returns-clause-taken c = taken_keeps

pub returns-clause-other : goal.returns-clause-other
returns-clause-other c = other_keeps

pub returns-clause-checkpoint : goal.returns-clause-checkpoint
returns-clause-checkpoint c = checkpoint_keeps
