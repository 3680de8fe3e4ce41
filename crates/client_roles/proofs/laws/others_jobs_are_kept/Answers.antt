use Rattle.client_roles.proofs.RoleLaws.{only_makers, only_operators, only_owners, own_name}
use Rattle.client_roles.proofs.laws.others_jobs_are_kept.Goals as goal

pub returns-clause-others : goal.returns-clause-others
returns-clause-others c = only_owners

pub returns-clause-strangers : goal.returns-clause-strangers
returns-clause-strangers c = only_makers

pub returns-clause-names : goal.returns-clause-names
returns-clause-names c = own_name

pub returns-clause-service : goal.returns-clause-service
returns-clause-service c = only_operators
