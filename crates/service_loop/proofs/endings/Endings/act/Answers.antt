-- `retain` chooses among those noted before, by `is_current`.
use Rattle.std.proofs.Common.{ap, map, rules, subst, ◌∙◌, List}
use Rattle.std.proofs.lemmas.Fn.{filter_same}
use Rattle.service_loop.specs.Endings.{Sends, is_current, signalled, signals_due}
use Rattle.service_loop.specs.declared.endings.Ending.{Ending}
use Rattle.service_loop.proofs.endings.Endings.act.Goals as goal

pub returns-clause-sent : goal.returns-clause-sent
returns-clause-sent g c =
    let chosen = c.retain.ensures.filtered in (
      c.retain.new.self.items,
      record { choices = chosen.0; each = chosen.2; chosen = chosen.4 },
      c.send_due.ensures.list,
      c.send_due.ensures.sent,
    )

pub returns-clause-kept : goal.returns-clause-kept
returns-clause-kept g c =
    c.send_due.ensures.list
    ∙ ap (map (signalled c.args.now))
    (filter_same _ (is_current g.C.Children.groups c.args.engine.now.run_state.slots) _ (λ e b f' called. search rules) _ _ c.retain.ensures.filtered)

pub returns-clause-due : goal.returns-clause-due
returns-clause-due g c =
    subst (λ (kept : List Ending). Sends (g.S.Signals.sent c.args.signals.now) (g.S.Signals.sent c.send_due.new.signals) (signals_due c.args.now kept))
    (filter_same _ (is_current g.C.Children.groups c.args.engine.now.run_state.slots) _ (λ e b f' called. search rules) _ _ c.retain.ensures.filtered)
    c.send_due.ensures.sent
