use Rattle.client_roles.proofs.RoleLaws.{anybody_looks, operators_may}
use Rattle.client_roles.proofs.laws.operators_are_denied_nothing.Goals as goal

pub returns-clause-operators : goal.returns-clause-operators
returns-clause-operators c = operators_may

pub returns-clause-looks : goal.returns-clause-looks
returns-clause-looks c = anybody_looks
