-- The contract of the spool for a settle.
use Rattle.std.proofs.Common.{subst}
use Rattle.spool_core.specs.OpenSpools.{OpenSpool}
use Rattle.spool_engine.specs.StagedSteps.{IsSettling}
use Rattle.spool_engine.proofs.StagingLaws.{spool_settles}
use Rattle.spool_engine.proofs.executor.Executor.settle.Goals as goal

pub returns-clause-settles : goal.returns-clause-settles
returns-clause-settles g c =
    subst (λ (s : OpenSpool g.row.D.Denot). IsSettling g.D.Disk.device s c.settle-done.new.self) c.self.view_is
    (spool_settles g.D.Disk.device g.met.D.Disk.lawful c.self.inside.spool c.settle-done.new.self c.settle-done.result c.settle-done.ensures.dead c.settle-done.ensures.untouched c.settle-done.ensures.none c.settle-done.ensures.blames c.settle-done.ensures.dies c.settle-done.ensures.same
    c.settle-done.ensures.settled c.settle-done.ensures.told c.settle-done.ensures.any_moment c.settle-done.ensures.documents c.settle-done.ensures.kept c.settle-done.ensures.sent)

pub invariant_of-self : goal.invariant_of-self
invariant_of-self g c = record { kept = λ settled alive. c.table-table.ensures.kept alive (settled alive); synced = c.table-table.ensures.synced }
