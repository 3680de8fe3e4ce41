use Rattle.service_loop.proofs.ClientStepLaws.{answers_come_in_order, proofs_by_steps, standing_by_steps, told_once}
use Rattle.service_loop.proofs.laws.clients_of_the_loop_stay_apart.Goals as goal

pub returns-clause-asks : goal.returns-clause-asks
returns-clause-asks g c = answers_come_in_order g.D.Disk.device g.L.Connection.view

pub returns-clause-texts : goal.returns-clause-texts
returns-clause-texts g c = told_once g.D.Disk.device g.L.Connection.view

pub returns-clause-standing : goal.returns-clause-standing
returns-clause-standing g c = standing_by_steps g.D.Disk.device g.L.Connection.view

pub returns-clause-proofs : goal.returns-clause-proofs
returns-clause-proofs g c = proofs_by_steps g.D.Disk.device g.L.Connection.view
