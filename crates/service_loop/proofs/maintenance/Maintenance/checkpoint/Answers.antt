-- The engine answered the checkpoint.
use Rattle.service_loop.proofs.CallLaws.{answered_by, goes_of}
use Rattle.service_loop.proofs.maintenance.Maintenance.checkpoint.Goals as goal

pub returns-clause-answered : goal.returns-clause-answered
returns-clause-answered g c =
    let (t, takes, same) = c.in_ok-answer.ensures.executed in
    answered_by g.D.Disk.device _ _ _ t (goes_of _ _ _ _ _ c.execute.ensures.calls) takes
