-- The watching clients were sent the changes.
use Rattle.std.proofs.Common.{ap, ◌∙◌}
use Rattle.service_loop.proofs.HistoryLaws.{history_notifies}
use Rattle.service_loop.proofs.service.Service.notify_changes.Goals as goal

pub returns-clause-history : goal.returns-clause-history
returns-clause-history g c =
    history_notifies _ _ _ _ c.table.result.now.state c.in_ok-notes.notes _ _ _ (ap (λ s. s.engine) c.take_changes.ensures.kept) (c.table.ensures ∙ ap (λ s. s.engine.run_state.spool.state) c.take_changes.ensures.kept)
    (record { each = c.notify-starved.ensures.told; others = c.notify-starved.ensures.others })
