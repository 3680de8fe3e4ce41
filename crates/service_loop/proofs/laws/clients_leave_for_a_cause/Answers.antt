use Rattle.service_loop.proofs.LeavingLaws.{left_for}
use Rattle.service_loop.proofs.laws.clients_leave_for_a_cause.Goals as goal

pub returns : goal.returns
returns g c = left_for g.D.Disk.device g.L.Connection.view
