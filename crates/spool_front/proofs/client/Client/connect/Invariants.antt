-- No connection is open yet, and nothing else has changed.
use Rattle.std.proofs.Common.{◌≡◌, None}
use Rattle.spool_front.proofs.client.Client.connect.Given as goal

abbrev pub invariant-loop : goal.invariant-loop
invariant-loop l = record {
  none : l.self.connection ≡ None;
  kept : l.self ≡ record l.fn.self { connection = l.self.connection };
}
