-- One more child.
use Rattle.std.proofs.Common.{arith, ap, sym, subst, ◌∙◌, ◌∷◌, [], List, ℕ}
use Rattle.service_loop.specs.Endings.{Sends, signalled, signals_due}
use Rattle.service_loop.specs.declared.endings.Ending.{Ending}
use Rattle.service_loop.specs.declared.signals.Signal.{Signal}
use Rattle.service_loop.proofs.EndingLaws.{due-step, part-step, part-whole, sends_then}
use Rattle.service_loop.proofs.endings.Endings.send_due.Goals as goal

pub loop-ending-preserved : goal.loop-ending-preserved
loop-ending-preserved g c =
    let so_far = c.loop-ending.invariant in
    let sent = g.S.Signals.sent in
    let one = subst (λ (e : Ending). Sends (sent c.loop-ending.signals) (sent c.send_one.new.signals) (signals_due c.args.now (e ∷ []))) (sym c.ending-item.is) c.send_one.ensures.sent in
    record {
      list =
          part-step (signalled c.args.now) c.loop-ending.ending-index _ _ c.ending-item.result c.send_one.new.ending so_far.list (omega arith) c.ending-item.is
          (c.send_one.ensures.ending ∙ ap (signalled c.args.now) (sym c.ending-item.is));
      sent =
          subst (λ (l : List (ℕ × Signal)). Sends (sent c.args.signals.now) (sent c.send_one.new.signals) l)
          (sym (due-step c.args.now c.loop-ending.ending-index _ _ (signalled c.args.now) c.ending-item.result so_far.list (omega arith) c.ending-item.is))
          (sends_then (sent c.args.signals.now) (sent c.loop-ending.signals) (sent c.send_one.new.signals) _ _ so_far.sent one);
    }

pub returns-clause-list : goal.returns-clause-list
returns-clause-list g c = part-whole (signalled c.args.now) c.loop-ending.ending-index _ _ _ c.loop-ending.invariant.list (omega arith) (omega arith)
