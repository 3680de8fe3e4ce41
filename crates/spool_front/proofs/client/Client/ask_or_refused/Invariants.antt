-- Only the connection has changed.
use Rattle.std.proofs.Common.{◌≡◌}
use Rattle.spool_front.proofs.client.Client.ask_or_refused.Given as goal

abbrev pub invariant-loop : goal.invariant-loop
invariant-loop l = l.self ≡ record l.fn.self { connection = l.self.connection }
