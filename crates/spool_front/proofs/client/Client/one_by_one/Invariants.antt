-- Only the connection has changed.
use Rattle.std.proofs.Common.{◌≡◌}
use Rattle.spool_front.proofs.client.Client.one_by_one.Given as goal

abbrev pub invariant-loop-text : goal.invariant-loop-text
invariant-loop-text l = l.self ≡ record l.fn.self { connection = l.self.connection }
