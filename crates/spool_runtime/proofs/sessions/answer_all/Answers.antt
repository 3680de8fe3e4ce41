use Rattle.spool_runtime.proofs.SessionLaws.{begun, further, wants_more, ended, unwritten}
use Rattle.spool_runtime.proofs.sessions.answer_all.Goals as goal

pub requests-init : goal.requests-init
requests-init c = begun _ _ _ _

pub requests-preserved : goal.requests-preserved
requests-preserved c = further _ _ _ _ _ _ _ _ _ _ c.in-Answer.count c.requests.invariant c.in-Answer.ensures.takes c.in-Ok.ensures

pub returns-in-Err : goal.returns-in-Err
returns-in-Err c = unwritten _ _ _ _ _ _ _ _ _ _ c.in-Answer.count _ c.requests.invariant c.in-Answer.ensures.takes c.in-Err.ensures

pub returns-in-Wants : goal.returns-in-Wants
returns-in-Wants c = wants_more _ _ _ _ _ _ _ _ c.requests.invariant c.in-Wants.ensures

pub returns-in-End : goal.returns-in-End
returns-in-End c = ended _ _ _ _ _ _ _ _ c.in-End.count c.requests.invariant c.in-End.ensures
