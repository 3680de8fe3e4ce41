-- By the durability.
use Rattle.std.proofs.Common.{sym, subst}
use Rattle.spool_engine.specs.StagedSteps.{IsAppliedAs, MayApply}
use Rattle.spool_engine.specs.declared.durability.Durability.{Durability}
use Rattle.spool_engine.proofs.executor.Executor.take.Goals as goal

pub apply-requires : goal.apply-requires
apply-requires g c = record { settled = subst (λ (d : Durability). MayApply d c.args.self.now) c.in-Durable.is c.requires.may }

pub returns-in-Durable : goal.returns-in-Durable
returns-in-Durable g c = record {
  taken = subst (λ (d : Durability). IsAppliedAs d g.D.Disk.device c.args.self.now c.args.event c.apply.result c.apply.new.self) (sym c.in-Durable.is) c.apply.ensures.applied;
  may = subst (λ (d : Durability). MayApply d c.apply.new.self) (sym c.in-Durable.is) c.apply.ensures.settled;
}

pub returns-in-Staged : goal.returns-in-Staged
returns-in-Staged g c = record {
  taken = subst (λ (d : Durability). IsAppliedAs d g.D.Disk.device c.args.self.now c.args.event c.stage.result c.stage.new.self) (sym c.in-Staged.is) c.stage.ensures;
  may = subst (λ (d : Durability). MayApply d c.stage.new.self) (sym c.in-Staged.is) tt;
}
