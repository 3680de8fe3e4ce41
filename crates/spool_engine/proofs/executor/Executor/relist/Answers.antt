-- The spool's answer, and the images that a crash leaves.
use Rattle.std.proofs.Common.{sym, subst}
use Rattle.spool_core.specs.OpenSpools.{OpenSpool, IsSettled as NoneStaged}
use Rattle.spool_engine.specs.EventAnswers.{IsRelisted}
use Rattle.spool_engine.proofs.EventLaws.{spool_relisted}
use Rattle.spool_engine.proofs.executor.Executor.relist.Goals as goal

pub invariant_of-self : goal.invariant_of-self
invariant_of-self g c = record { kept = λ settled alive. c.table-table.ensures.kept alive (settled alive); synced = c.table-table.ensures.synced }

pub returns-clause-listed : goal.returns-clause-listed
returns-clause-listed g c = subst (λ (s : OpenSpool g.row.D.Denot). IsRelisted g.D.Disk.device s c.checkpoint-listed.result c.checkpoint-listed.new.self) c.self.view_is
    (spool_relisted g.D.Disk.device c.self.inside.spool c.checkpoint-listed.new.self c.checkpoint-listed.result g.met.D.Disk.lawful c.checkpoint-listed.ensures.answer c.checkpoint-listed.ensures.blames.later c.checkpoint-listed.ensures.told c.checkpoint-listed.ensures.any_moment c.checkpoint-listed.ensures.documents c.checkpoint-listed.ensures.kept
    (c.self.invariant.kept (subst (λ (s : OpenSpool g.row.D.Denot). NoneStaged s) (sym c.self.view_is) c.requires.settled)))

pub checkpoint-listed-requires : goal.checkpoint-listed-requires
checkpoint-listed-requires g c = record { settled = subst (λ (s : OpenSpool g.row.D.Denot). NoneStaged s) (sym c.self.view_is) c.requires.settled }
