-- The turns of all clients; what follows changes no client.
use Rattle.std.proofs.Common.{ap, ◌∙◌}
use Rattle.service_loop.proofs.CallLaws.{within_kept}
use Rattle.service_loop.proofs.HistoryLaws.{history_kept, history_then, history_turns}
use Rattle.service_loop.proofs.service.Service.serve_clients.Goals as goal

pub returns-clause-history : goal.returns-clause-history
returns-clause-history g c =
    let served = c.serve-turns.ensures.turns in
    history_kept _ _ _ _ _ _ _ _
    (history_then _ _ _ _ served.between served.mid _ _ (history_turns _ _ _ _ 1000 _ _ served.requests) (history_turns _ _ _ _ 1000 _ _ served.replies))
    (ap (λ s. s.engine) c.end_children.ensures.kept ∙ c.handle_turns.ensures.engine)
    (ap (λ s. s.slots) c.handle_turns.ensures.clients)

pub returns-clause-calls : goal.returns-clause-calls
returns-clause-calls g c =
    within_kept g.D.Disk.device _ _ _ _ _ _ c.serve-turns.ensures.calls (ap (λ s. s.engine) c.end_children.ensures.kept ∙ c.handle_turns.ensures.engine) (ap (λ s. s.most) c.end_children.ensures.kept ∙ c.handle_turns.ensures.most)

pub returns-clause-ended : goal.returns-clause-ended
returns-clause-ended g c = (_, c.end_children.ensures.list, c.end_children.ensures.due)
