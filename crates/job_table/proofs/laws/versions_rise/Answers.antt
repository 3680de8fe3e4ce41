use Rattle.job_table.proofs.Raised.{accepted_raised, reply_raised, after_raised, all_raised, legal_raised, reopened_raised, version_stays}
use Rattle.job_table.proofs.laws.versions_rise.Goals as goal

pub returns-clause-one : goal.returns-clause-one
returns-clause-one c = λ s e accepted. (accepted_raised s e accepted, reply_raised s e, after_raised s e)

pub returns-clause-all : goal.returns-clause-all
returns-clause-all c = λ s events. all_raised events s

pub returns-clause-legal : goal.returns-clause-legal
returns-clause-legal c = legal_raised

pub returns-clause-reopened : goal.returns-clause-reopened
returns-clause-reopened c = reopened_raised

pub returns-clause-version : goal.returns-clause-version
returns-clause-version c = λ s events. version_stays events s
