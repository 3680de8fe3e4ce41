use Rattle.service_rules.proofs.Reserving.{let_in_again, removable}
use Rattle.service_rules.proofs.reserve.jobs_can_be_removed.Goals as goal

pub returns-clause-removable : goal.returns-clause-removable
returns-clause-removable c = removable

pub returns-clause-again : goal.returns-clause-again
returns-clause-again c = let_in_again
