use Rattle.service_loop.proofs.HistoryLaws.{served_right}
use Rattle.service_loop.proofs.laws.clients_of_a_service_stay_apart.Goals as goal

pub returns : goal.returns
returns g c = served_right g.D.Disk.device g.L.Connection.view
