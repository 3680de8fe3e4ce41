-- The first one to be replaced of the clients so far.
use Rattle.std.proofs.Common.{take}
use Rattle.service_rules.proofs.GoingFirst.{FirstOf}
use Rattle.service_rules.proofs.slots.first_to_go.Given as goal

abbrev pub invariant-loop-client : goal.invariant-loop-client
invariant-loop-client l = FirstOf l.now (take l.client-index l.clients) l.first
