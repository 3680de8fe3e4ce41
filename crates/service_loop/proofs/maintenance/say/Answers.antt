-- The engine answered the command.
use Rattle.service_loop.proofs.CallLaws.{answered_by, goes_of}
use Rattle.service_loop.proofs.maintenance.say.Goals as goal

pub returns-clause-answered : goal.returns-clause-answered
returns-clause-answered g c =
    let (t, takes, same) = c.in_ok-execute.ensures.executed in
    answered_by g.D.Disk.device _ _ c.args.command t (goes_of _ _ _ _ _ c.execute.ensures.calls) takes
