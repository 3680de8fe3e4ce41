-- Each clause is a law of `DueLaws`.
use Rattle.service_loop.proofs.DueLaws.{changes_nothing, quiet_until, starts_none, state_stays, reason_stays}
use Rattle.service_loop.proofs.laws.nothing_is_due_before.Goals as goal

pub returns-clause-found : goal.returns-clause-found
returns-clause-found c = quiet_until

pub returns-clause-rows : goal.returns-clause-rows
returns-clause-rows c = changes_nothing

pub returns-clause-starts : goal.returns-clause-starts
returns-clause-starts c = starts_none

pub returns-clause-state : goal.returns-clause-state
returns-clause-state c = state_stays

pub returns-clause-reason : goal.returns-clause-reason
returns-clause-reason c = reason_stays
