use Rattle.service_loop.proofs.CallLaws.{services_once}
use Rattle.service_loop.proofs.laws.services_order_no_stage_twice.Goals as goal

pub returns : goal.returns
returns g c = services_once g.D.Disk.device c.no_stage_is_ordered_twice.ensures
