-- Meanwhile it requests nothing and is sent nothing.
use Rattle.std.proofs.Common.{◌≡◌, ◌≤◌, ◌+◌, cond}
use Rattle.service_loop.specs.AdmissionViews.{unread}
use Rattle.service_loop.specs.Progress.{IsMarked, as_given, heard_after}
use Rattle.service_loop.specs.ClientSteps.{Delivers}
use Rattle.service_loop.proofs.client.Client.give.Given as goal

abbrev pub invariant-loop-self : goal.invariant-loop-self
invariant-loop-self g l = record {
  delivers : Delivers g.L.Connection.view l.fn.self l.self;
  kept : l.self ≡ as_given l.fn.self l.self;
  marked : IsMarked g.L.Connection.view l.fn.self → IsMarked g.L.Connection.view l.self;
  fewer : unread l.self ≤ unread l.fn.self;
  heard : l.self.last_active ≡ heard_after l.fn.self l.now l.self;
}

abbrev pub decreases-loop-self : goal.decreases-loop-self
decreases-loop-self g l = cond l.self.writable (unread l.self + 1) 0
