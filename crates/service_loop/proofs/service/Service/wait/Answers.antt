-- The noted moment is no event, and what was ready follows it.
use Rattle.std.proofs.Common.{ap}
use Rattle.service_loop.proofs.HistoryLaws.{history_since}
use Rattle.service_loop.proofs.service.Service.wait.Goals as goal

pub returns-clause-history : goal.returns-clause-history
returns-clause-history g c =
    history_since _ _ _ _ _ _ _ _ c.note_moment.ensures.engine (ap (λ s. s.clients.slots) c.note_moment.ensures.kept) c.note_readiness.ensures.history
