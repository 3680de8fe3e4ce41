-- The connection is unchanged.
use Rattle.std.proofs.Common.{◌≡◌}
use Rattle.std.specs.Io.KnownBytes.{Keeps}
use Rattle.service_loop.proofs.connection.write_to.Given as goal

abbrev pub invariant-loop : goal.invariant-loop
invariant-loop g l = record {
  remaining : Keeps (g.L.Connection.view.remaining l.fn.connection) (g.L.Connection.view.remaining l.connection);
  contents : Keeps (g.L.Connection.view.contents l.fn.connection) (g.L.Connection.view.contents l.connection);
  other : g.L.Connection.view.gave l.connection ≡ g.L.Connection.view.gave l.fn.connection;
  proofs : g.L.Connection.view.proofs l.connection ≡ g.L.Connection.view.proofs l.fn.connection;
}
