-- The replies so far.
use Rattle.std.proofs.Common.{◌≡◌}
use Rattle.service_client.specs.Pipelines.{standing}
use Rattle.service_client.specs.Traces.{Receives}
use Rattle.service_client.proofs.session.Session.wait_for_room.Given as goal

abbrev pub invariant-loop : goal.invariant-loop
invariant-loop g l = record {
  receives : Receives (standing l.fn.self.pipeline) (g.C.Connection.came l.fn.self.connection) l.fn.answers.items l.answers.items (standing l.self.pipeline) (g.C.Connection.came l.self.connection);
  sent : g.C.Connection.sent l.self.connection ≡ g.C.Connection.sent l.fn.self.connection;
}
