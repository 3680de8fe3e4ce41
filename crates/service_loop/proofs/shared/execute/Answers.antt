-- One command is one call.
use Rattle.service_loop.proofs.CallLaws.{within_turn}
use Rattle.service_loop.proofs.shared.execute.Goals as goal

pub returns-clause-calls : goal.returns-clause-calls
returns-clause-calls g c =
    let executed = c.execute.ensures in
    λ most. within_turn g.D.Disk.device most _ _ c.args.command executed.executed.0 executed.mime executed.place c.requires executed.executed.1
