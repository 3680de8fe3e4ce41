-- The engine is unchanged, and the clients changed by readiness alone.
use Rattle.std.proofs.Common.{◌≡◌}
use Rattle.service_loop.specs.SlotHistories.{GoesByEvents}
use Rattle.service_loop.proofs.service.Service.note_readiness.Given as goal

abbrev pub invariant-loop : goal.invariant-loop
invariant-loop g l = record {
  engine : l.self.shared.engine ≡ l.fn.self.shared.engine;
  most : l.self.shared.most ≡ l.fn.self.shared.most;
  history : GoesByEvents g.D.Disk.device g.R.Stream.Connection.view l.fn.self.shared.engine l.fn.self.clients.slots l.self.shared.engine l.self.clients.slots;
}
