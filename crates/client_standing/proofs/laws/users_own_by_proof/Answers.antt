use Rattle.client_standing.proofs.OwnerLaws.{owner_proved, unproved_owner}
use Rattle.client_standing.proofs.laws.users_own_by_proof.Goals as goal

pub returns-clause-proved : goal.returns-clause-proved
returns-clause-proved c = owner_proved

pub returns-clause-unproved : goal.returns-clause-unproved
returns-clause-unproved c = unproved_owner
