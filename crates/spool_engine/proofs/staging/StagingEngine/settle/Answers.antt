use Rattle.std.proofs.Common.{subst}
use Rattle.spool_engine.specs.EngineRuns.{Engine}
use Rattle.spool_engine.specs.StagedSteps.{SettlesTo}
use Rattle.spool_engine.proofs.staging.StagingEngine.settle.Goals as goal

pub returns-clause-settles : goal.returns-clause-settles
returns-clause-settles g c = subst (λ (e : Engine g.row.D.Denot). SettlesTo g.D.Disk.device e.run_state c.settle.new.self) c.self.view_is c.settle.ensures.settles
