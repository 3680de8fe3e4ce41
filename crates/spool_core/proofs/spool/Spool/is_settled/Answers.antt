use Rattle.std.proofs.Common.{subst}
use Rattle.std.specs.Prelude.{◌↔◌, IsTrue}
use Rattle.spool_core.specs.OpenSpools.{OpenSpool, IsSettled}
use Rattle.spool_core.proofs.spool.Spool.is_settled.Goals as goal

pub returns : goal.returns
returns g c = subst (λ (x : OpenSpool g.row.D.Denot). IsTrue c.is_settled.result ↔ IsSettled x) c.self.view_is c.is_settled.ensures
