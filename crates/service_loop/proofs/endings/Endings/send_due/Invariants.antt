-- The first of them were sent their due signals.
use Rattle.std.proofs.Common.{◌≡◌, take}
use Rattle.service_loop.specs.Endings.{Sends, signalled, signals_due}
use Rattle.service_loop.proofs.EndingLaws.{part}
use Rattle.service_loop.proofs.endings.Endings.send_due.Given as goal

abbrev pub invariant-loop-ending : goal.invariant-loop-ending
invariant-loop-ending g l = record {
  list : l.ending-items ≡ part (signalled l.now) l.ending-index l.fn.self.list.items;
  sent : Sends (g.S.Signals.sent l.fn.signals) (g.S.Signals.sent l.signals) (signals_due l.now (take l.ending-index l.fn.self.list.items));
}
