use Rattle.client_standing.proofs.OwnerLaws.{stranger_sees}
use Rattle.client_standing.proofs.laws.strangers_see_nothing.Goals as goal

pub returns : goal.returns
returns c = stranger_sees
