use Rattle.std.proofs.Common.{length}
use Rattle.spool_runtime.proofs.SessionLaws.{Progress}
use Rattle.spool_runtime.proofs.sessions.answer_all.Given as goal

abbrev pub invariant-requests : goal.invariant-requests
invariant-requests l = Progress l.device l.initial.session l.session l.piece l.rest l.initial.answers.items l.answers.items

abbrev pub decreases-requests : goal.decreases-requests
decreases-requests l = length l.rest
