-- No line is whole so far.
use Rattle.std.proofs.Common.{◌≡◌, []}
use Rattle.service_client.specs.Pipelines.{standing}
use Rattle.service_client.specs.Traces.{Hears}
use Rattle.service_client.proofs.session.Session.receive_lines.Given as goal

abbrev pub invariant-loop : goal.invariant-loop
invariant-loop g l = record {
  hears : Hears (standing l.fn.self.pipeline).rest (g.C.Connection.came l.fn.self.connection) [] (standing l.self.pipeline).rest (g.C.Connection.came l.self.connection);
  settled : (standing l.self.pipeline).tags ≡ [];
  sent : g.C.Connection.sent l.self.connection ≡ g.C.Connection.sent l.fn.self.connection;
}
