-- The engine changed by calls, and the clients by the events of the loop.
use Rattle.service_loop.specs.ServiceCalls.{GoesWithin}
use Rattle.service_loop.specs.SlotHistories.{GoesByEvents}
use Rattle.service_loop.proofs.service.Service.serve.Given as goal

abbrev pub invariant-loop : goal.invariant-loop
invariant-loop g l = record {
  calls : GoesWithin g.D.Disk.device l.fn.self.shared.most l.fn.self.shared.engine l.self.shared.most l.self.shared.engine;
  history : GoesByEvents g.D.Disk.device g.R.Stream.Connection.view l.fn.self.shared.engine l.fn.self.clients.slots l.self.shared.engine l.self.clients.slots;
}
