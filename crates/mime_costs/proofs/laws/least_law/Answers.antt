use Rattle.mime_costs.proofs.WalkLaws.{least_is_walk, least_is_least, none_is_apart}
use Rattle.mime_costs.proofs.laws.least_law.Goals as goal

pub returns : goal.returns
returns c = record { walk = least_is_walk; least = least_is_least; none = none_is_apart }
