-- The spool's answer, and the images that a crash leaves.
use Rattle.std.proofs.Common.{sym, subst}
use Rattle.spool_core.specs.OpenSpools.{OpenSpool, IsSettled as NoneStaged}
use Rattle.spool_engine.specs.EventAnswers.{IsApplied}
use Rattle.spool_engine.proofs.EventLaws.{spool_applied}
use Rattle.spool_engine.proofs.executor.Executor.apply.Goals as goal

pub invariant_of-self : goal.invariant_of-self
invariant_of-self g c = record { kept = λ settled alive. c.table-table.ensures.kept alive (settled alive); synced = c.table-table.ensures.synced }

pub returns-clause-applied : goal.returns-clause-applied
returns-clause-applied g c = subst (λ (s : OpenSpool g.row.D.Denot). IsApplied g.D.Disk.device s c.args.event c.apply-applied.result c.apply-applied.new.self) c.self.view_is
    (spool_applied g.D.Disk.device c.self.inside.spool c.apply-applied.new.self c.args.event c.apply-applied.result g.met.D.Disk.lawful c.apply-applied.ensures.answer c.apply-applied.ensures.later c.apply-applied.ensures.told c.apply-applied.ensures.any_moment c.apply-applied.ensures.documents c.apply-applied.ensures.kept c.apply-applied.ensures.sent
    (c.self.invariant.kept (subst (λ (s : OpenSpool g.row.D.Denot). NoneStaged s) (sym c.self.view_is) c.requires.settled)))

pub apply-applied-requires : goal.apply-applied-requires
apply-applied-requires g c = record { settled = subst (λ (s : OpenSpool g.row.D.Denot). NoneStaged s) (sym c.self.view_is) c.requires.settled }
