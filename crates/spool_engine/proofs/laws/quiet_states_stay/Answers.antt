use Rattle.spool_engine.proofs.SettleLaws.{settled_same}
use Rattle.spool_engine.proofs.laws.quiet_states_stay.Goals as goal

pub returns : goal.returns
returns c = λ x rest. settled_same x rest
