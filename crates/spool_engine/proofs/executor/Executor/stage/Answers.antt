-- The spool's answer, and the images that a crash leaves.
use Rattle.std.proofs.Common.{subst}
use Rattle.spool_core.specs.OpenSpools.{OpenSpool}
use Rattle.spool_engine.specs.StagedSteps.{IsStagedBy}
use Rattle.spool_engine.proofs.StagingLaws.{spool_staged}
use Rattle.spool_engine.proofs.executor.Executor.stage.Goals as goal

pub invariant_of-self : goal.invariant_of-self
invariant_of-self g c = record { kept = λ settled alive. c.table-table.ensures.kept alive (settled alive); synced = c.table-table.ensures.synced }

pub returns : goal.returns
returns g c = subst (λ (s : OpenSpool g.row.D.Denot). IsStagedBy g.D.Disk.device s c.args.event c.stage-staged.result c.stage-staged.new.self) c.self.view_is
    (spool_staged g.D.Disk.device g.met.D.Disk.lawful c.self.inside.spool c.stage-staged.new.self c.args.event c.stage-staged.result c.stage-staged.ensures.answer c.stage-staged.ensures.later c.stage-staged.ensures.told c.stage-staged.ensures.any_moment c.stage-staged.ensures.documents c.stage-staged.ensures.sent
    (record { kept = λ settled alive. c.table-table.ensures.kept alive (settled alive); synced = c.table-table.ensures.synced }))
