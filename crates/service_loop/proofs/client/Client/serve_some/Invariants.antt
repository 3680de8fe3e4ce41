-- The actions so far.
use Rattle.std.proofs.Common.{◌≡◌, ◌≤◌, true}
use Rattle.service_rules.specs.Listeners.{may_listen}
use Rattle.service_loop.specs.ServiceCalls.{GoesWithin}
use Rattle.service_loop.specs.ClientListening.{BeginsAtMost}
use Rattle.service_loop.specs.Progress.{IsMarked}
use Rattle.service_loop.proofs.ClientStepLaws.{Stepped}
use Rattle.service_loop.proofs.client.Client.serve_some.Given as goal

abbrev pub invariant-loop : goal.invariant-loop
invariant-loop g l = record {
  counted : l.served ≤ l.counter;
  calls : GoesWithin g.D.Disk.device l.fn.shared.most l.fn.shared.engine l.shared.most l.shared.engine;
  stepped : Stepped g.D.Disk.device g.L.Connection.view l.fn.shared.engine l.fn.self l.shared.engine l.self;
  marked : IsMarked g.L.Connection.view l.fn.self → IsMarked g.L.Connection.view l.self;
  more : l.turn.more ≡ true;
  disconnect : l.turn.disconnect ≡ l.fn.turn.disconnect;
  listening : l.turn.listening ≡ l.fn.turn.listening;
  listens : BeginsAtMost (may_listen l.fn.turn.listening) l.fn.self l.self;
}
