-- The clients' turns, the tick and maintenance are calls, and nothing else changes the engine.
use Rattle.std.proofs.Common.{ap, sym, subst, ◌∙◌, Ok}
use Rattle.service_loop.specs.ServiceCalls.{GoesByCalls}
use Rattle.service_loop.specs.ServiceTurns.{HasTriedAtMost, KeepsTime, has_new_client_waiting}
use Rattle.service_loop.proofs.CallLaws.{calls_then, goes_of, turn_within, within_kept, within_since, within_then}
use Rattle.service_loop.proofs.HistoryLaws.{history_kept, history_then, history_works, turn_history}
use Rattle.service_loop.proofs.TurnLaws.{no_reason}
use Rattle.service_loop.proofs.service.Service.turn.Goals as goal

pub returns-in_err-fresh-clause-calls : goal.returns-in_err-fresh-clause-calls
returns-in_err-fresh-clause-calls g c =
    within_since g.D.Disk.device _ _ _ _ _ _ (c.let_in.ensures.engine ∙ c.wait.ensures.engine) (c.let_in.ensures.most ∙ c.wait.ensures.most)
    (within_then g.D.Disk.device _ _ _ _ _ _ c.serve_clients-turns.ensures.calls c.refresh_time.ensures.calls)

pub returns-in_err-kept-clause-calls : goal.returns-in_err-kept-clause-calls
returns-in_err-kept-clause-calls g c =
    turn_within g.D.Disk.device _ _ _ _ _ _ _ _ _ _ (c.let_in.ensures.engine ∙ c.wait.ensures.engine) (c.let_in.ensures.most ∙ c.wait.ensures.most)
    (within_then g.D.Disk.device _ _ _ _ _ _ c.serve_clients-turns.ensures.calls c.refresh_time.ensures.calls) c.tick-ticked.ensures.calls c.maintain.ensures.calls

pub returns-in_err-notify_changes-clause-calls : goal.returns-in_err-notify_changes-clause-calls
returns-in_err-notify_changes-clause-calls g c =
    within_kept g.D.Disk.device _ _ _ _ _ _
    (turn_within g.D.Disk.device _ _ _ _ _ _ _ _ _ _ (c.let_in.ensures.engine ∙ c.wait.ensures.engine) (c.let_in.ensures.most ∙ c.wait.ensures.most)
    (within_then g.D.Disk.device _ _ _ _ _ _ c.serve_clients-turns.ensures.calls c.refresh_time.ensures.calls) c.tick-ticked.ensures.calls c.maintain.ensures.calls)
    (c.notify_changes.ensures.engine ∙ c.log_events.ensures.engine ∙ ap (λ s. s.shared.engine) c.note_more.ensures.kept)
    (c.notify_changes.ensures.most ∙ c.log_events.ensures.most ∙ ap (λ s. s.shared.most) c.note_more.ensures.kept)

pub returns-then-met_fault-clause-calls : goal.returns-then-met_fault-clause-calls
returns-then-met_fault-clause-calls g c =
    within_kept g.D.Disk.device _ _ _ _ _ _
    (turn_within g.D.Disk.device _ _ _ _ _ _ _ _ _ _ (c.let_in.ensures.engine ∙ c.wait.ensures.engine) (c.let_in.ensures.most ∙ c.wait.ensures.most)
    (within_then g.D.Disk.device _ _ _ _ _ _ c.serve_clients-turns.ensures.calls c.refresh_time.ensures.calls) c.tick-ticked.ensures.calls c.maintain.ensures.calls)
    (c.notify_changes.ensures.engine ∙ c.log_events.ensures.engine ∙ ap (λ s. s.shared.engine) c.note_more.ensures.kept)
    (c.notify_changes.ensures.most ∙ c.log_events.ensures.most ∙ ap (λ s. s.shared.most) c.note_more.ensures.kept)

pub returns-clause-calls : goal.returns-clause-calls
returns-clause-calls g c =
    within_kept g.D.Disk.device _ _ _ _ _ _
    (turn_within g.D.Disk.device _ _ _ _ _ _ _ _ _ _ (c.let_in.ensures.engine ∙ c.wait.ensures.engine) (c.let_in.ensures.most ∙ c.wait.ensures.most)
    (within_then g.D.Disk.device _ _ _ _ _ _ c.serve_clients-turns.ensures.calls c.refresh_time.ensures.calls) c.tick-ticked.ensures.calls c.maintain.ensures.calls)
    (c.notify_changes.ensures.engine ∙ c.log_events.ensures.engine ∙ ap (λ s. s.shared.engine) c.note_more.ensures.kept)
    (c.notify_changes.ensures.most ∙ c.log_events.ensures.most ∙ ap (λ s. s.shared.most) c.note_more.ensures.kept)

pub returns-clause-turned : goal.returns-clause-turned
returns-clause-turned g c =
    let same_engine = c.notify_changes.ensures.engine ∙ c.log_events.ensures.engine ∙ ap (λ s. s.shared.engine) c.note_more.ensures.kept in
    let same_maintenance = ap (λ s. s.maintenance) c.notify_changes.ensures.kept ∙ ap (λ s. s.maintenance) c.log_events.ensures.kept ∙ ap (λ s. s.maintenance) c.note_more.ensures.kept in
    record {
      before = c.refresh_time.new.self.shared.engine;
      behind = c.tick-ticked.new.self.shared.engine;
      moved = c.tick-ticked.result;
      clients =
          subst (λ e. GoesByCalls g.D.Disk.device e c.refresh_time.new.self.shared.engine) (c.let_in.ensures.engine ∙ c.wait.ensures.engine)
          (calls_then g.D.Disk.device _ _ _ (goes_of _ _ _ _ _ c.serve_clients-turns.ensures.calls) (goes_of _ _ _ _ _ c.refresh_time.ensures.calls));
      tick = c.tick-ticked.ensures.ticked;
      kept =
          subst (λ e. KeepsTime g.D.Disk.device c.tick-ticked.new.self.shared.engine c.notify_changes.new.self.maintenance (g.T.Times.told c.maintain.new.times) e) (sym same_engine)
          (subst (λ h. KeepsTime g.D.Disk.device c.tick-ticked.new.self.shared.engine h (g.T.Times.told c.maintain.new.times) c.maintain.new.self.shared.engine) (sym same_maintenance) c.in_ok-kept.ensures.time);
      still = λ rests.
          let more = ap (λ s. s.more) c.log_events.ensures.kept in
          let reasons = no_reason c.serve_clients-turns.result.more c.serve_clients-turns.result.served c.tick-ticked.result c.in_ok-kept.kept c.in_ok-fresh.fresh
          (has_new_client_waiting c.maintain.new.self.has_new_client c.maintain.new.self.barred c.maintain.new.self.ends) (sym c.note_more.ensures.more ∙ sym more ∙ (c.in_ok-notify_changes.ensures.still rests).0) in
          (reasons.0, subst (λ e. HasTriedAtMost g.D.Disk.device c.tick-ticked.new.self.shared.engine e) (sym same_engine) (c.maintain.ensures.idle (c.in_ok-kept.was ∙ ap Ok reasons.1)).1);
    }

pub returns-in_err-let_in-clause-history : goal.returns-in_err-let_in-clause-history
returns-in_err-let_in-clause-history g c =
    history_then _ _ _ _ _ _ _ _ c.wait.ensures.history c.let_in.ensures.history

pub returns-in_err-fresh-clause-history : goal.returns-in_err-fresh-clause-history
returns-in_err-fresh-clause-history g c =
    history_then _ _ _ _ _ _ _ _ (history_then _ _ _ _ _ _ _ _ c.wait.ensures.history c.let_in.ensures.history)
    (history_then _ _ _ _ _ _ _ _ c.serve_clients-turns.ensures.history (history_works _ _ _ _ _ _ (goes_of _ _ _ _ _ c.refresh_time.ensures.calls) (ap (λ s. s.clients.slots) c.refresh_time.ensures.kept)))

pub returns-in_err-kept-clause-history : goal.returns-in_err-kept-clause-history
returns-in_err-kept-clause-history g c =
    turn_history _ _ _ _ _ _ _ _ _ _ _ _ _ _ c.wait.ensures.history c.let_in.ensures.history (history_then _ _ _ _ _ _ _ _ c.serve_clients-turns.ensures.history (history_works _ _ _ _ _ _ (goes_of _ _ _ _ _ c.refresh_time.ensures.calls) (ap (λ s. s.clients.slots) c.refresh_time.ensures.kept))) (goes_of _ _ _ _ _ c.tick-ticked.ensures.calls) (ap (λ s. s.clients.slots) c.tick-ticked.ensures.kept) (goes_of _ _ _ _ _ c.maintain.ensures.calls) (ap (λ s. s.clients.slots) c.maintain.ensures.kept)

pub returns-in_err-notify_changes-clause-history : goal.returns-in_err-notify_changes-clause-history
returns-in_err-notify_changes-clause-history g c =
    history_then _ _ _ _ _ _ _ _
    (history_kept _ _ _ _ _ _ _ _
    (turn_history _ _ _ _ _ _ _ _ _ _ _ _ _ _ c.wait.ensures.history c.let_in.ensures.history (history_then _ _ _ _ _ _ _ _ c.serve_clients-turns.ensures.history (history_works _ _ _ _ _ _ (goes_of _ _ _ _ _ c.refresh_time.ensures.calls) (ap (λ s. s.clients.slots) c.refresh_time.ensures.kept))) (goes_of _ _ _ _ _ c.tick-ticked.ensures.calls) (ap (λ s. s.clients.slots) c.tick-ticked.ensures.kept) (goes_of _ _ _ _ _ c.maintain.ensures.calls) (ap (λ s. s.clients.slots) c.maintain.ensures.kept))
    (c.log_events.ensures.engine ∙ ap (λ s. s.shared.engine) c.note_more.ensures.kept) (ap (λ s. s.clients.slots) c.log_events.ensures.kept ∙ ap (λ s. s.clients.slots) c.note_more.ensures.kept))
    c.notify_changes.ensures.history

pub returns-then-met_fault-clause-history : goal.returns-then-met_fault-clause-history
returns-then-met_fault-clause-history g c =
    history_then _ _ _ _ _ _ _ _
    (history_kept _ _ _ _ _ _ _ _
    (turn_history _ _ _ _ _ _ _ _ _ _ _ _ _ _ c.wait.ensures.history c.let_in.ensures.history (history_then _ _ _ _ _ _ _ _ c.serve_clients-turns.ensures.history (history_works _ _ _ _ _ _ (goes_of _ _ _ _ _ c.refresh_time.ensures.calls) (ap (λ s. s.clients.slots) c.refresh_time.ensures.kept))) (goes_of _ _ _ _ _ c.tick-ticked.ensures.calls) (ap (λ s. s.clients.slots) c.tick-ticked.ensures.kept) (goes_of _ _ _ _ _ c.maintain.ensures.calls) (ap (λ s. s.clients.slots) c.maintain.ensures.kept))
    (c.log_events.ensures.engine ∙ ap (λ s. s.shared.engine) c.note_more.ensures.kept) (ap (λ s. s.clients.slots) c.log_events.ensures.kept ∙ ap (λ s. s.clients.slots) c.note_more.ensures.kept))
    c.notify_changes.ensures.history

pub returns-clause-history : goal.returns-clause-history
returns-clause-history g c =
    history_then _ _ _ _ _ _ _ _
    (history_kept _ _ _ _ _ _ _ _
    (turn_history _ _ _ _ _ _ _ _ _ _ _ _ _ _ c.wait.ensures.history c.let_in.ensures.history (history_then _ _ _ _ _ _ _ _ c.serve_clients-turns.ensures.history (history_works _ _ _ _ _ _ (goes_of _ _ _ _ _ c.refresh_time.ensures.calls) (ap (λ s. s.clients.slots) c.refresh_time.ensures.kept))) (goes_of _ _ _ _ _ c.tick-ticked.ensures.calls) (ap (λ s. s.clients.slots) c.tick-ticked.ensures.kept) (goes_of _ _ _ _ _ c.maintain.ensures.calls) (ap (λ s. s.clients.slots) c.maintain.ensures.kept))
    (c.log_events.ensures.engine ∙ ap (λ s. s.shared.engine) c.note_more.ensures.kept) (ap (λ s. s.clients.slots) c.log_events.ensures.kept ∙ ap (λ s. s.clients.slots) c.note_more.ensures.kept))
    c.notify_changes.ensures.history
