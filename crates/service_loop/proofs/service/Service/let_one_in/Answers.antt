-- Nothing changed, or a client was admitted.
use Rattle.std.proofs.Common.{refl}
use Rattle.service_loop.proofs.HistoryLaws.{history_admits}
use Rattle.service_loop.proofs.service.Service.let_one_in.Goals as goal

pub returns-in_err-admission-in-Client-clause-history : goal.returns-in_err-admission-in-Client-clause-history
returns-in_err-admission-in-Client-clause-history g c = history_admits _ _ _ _ _ _ c.args.now _ _ refl c.admit.ensures.admitted

pub returns-in_ok-admission-in-Client-clause-history : goal.returns-in_ok-admission-in-Client-clause-history
returns-in_ok-admission-in-Client-clause-history g c = history_admits _ _ _ _ _ _ c.args.now _ _ refl c.admit.ensures.admitted
