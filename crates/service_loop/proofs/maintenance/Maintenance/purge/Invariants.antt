-- The engine changed by calls. The remaining jobs are the rest of those to purge, and the count will have fallen by their number.
use Rattle.std.proofs.Common.{◌≡◌, ◌-◌, length}
use Rattle.service_rules.specs.Purges.{purged}
use Rattle.spool_engine.specs.EngineRuns.{Engine}
use Rattle.service_loop.specs.ServiceCalls.{GoesWithin, HasAnsweredAll, purges}
use Rattle.service_loop.proofs.maintenance.Maintenance.purge.Given as goal

abbrev pub invariant-loop-job : goal.invariant-loop-job
invariant-loop-job g l = record {
  calls : GoesWithin g.D.Disk.device l.fn.shared.most l.fn.shared.engine l.shared.most l.shared.engine;
  rest : (e : Engine _) → HasAnsweredAll g.D.Disk.device l.shared.engine (purges l.job-iterator) e →
      HasAnsweredAll g.D.Disk.device l.fn.shared.engine (purges (purged l.count l.fn.self.listed.items)) e;
  counted : l.ended - length l.job-iterator ≡ l.fn.self.ended - length (purged l.count l.fn.self.listed.items);
}
