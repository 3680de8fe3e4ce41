-- Nothing changed, or the marks of one client.
use Rattle.std.proofs.Common.{refl}
use Rattle.service_loop.proofs.HistoryLaws.{history_none, history_readies}
use Rattle.service_loop.proofs.service.Service.note_ready.Goals as goal

pub returns-in-NewClient-clause-history : goal.returns-in-NewClient-clause-history
returns-in-NewClient-clause-history g c = history_none _ _ _ _

pub returns-in-Client-clause-history : goal.returns-in-Client-clause-history
returns-in-Client-clause-history g c = history_readies _ _ _ _ _ _ _ _ _ refl c.signal.ensures.own c.signal.ensures.others
