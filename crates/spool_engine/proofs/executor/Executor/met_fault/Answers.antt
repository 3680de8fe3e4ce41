use Rattle.std.proofs.Common.{subst}
use Rattle.spool_engine.specs.StagedSteps.{IsPlainIfSettled}
use Rattle.spool_engine.proofs.executor.Executor.met_fault.Goals as goal

pub returns-clause-plain : goal.returns-clause-plain
returns-clause-plain g c = subst (IsPlainIfSettled g.D.Disk.device) c.self.view_is c.self.invariant
