use Rattle.service_rules.proofs.Costs.{cost_little}
use Rattle.service_rules.proofs.checkpoints.checkpoints_cost_little.Goals as goal

pub returns : goal.returns
returns c = cost_little
