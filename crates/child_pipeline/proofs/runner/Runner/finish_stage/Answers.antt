use Rattle.std.proofs.Common.{subst, sym}
use Rattle.std.specs.FinMap as finite
use Rattle.child_pipeline.specs.StageSlots.{Slots, IsEnded}
use Rattle.child_pipeline.proofs.PutLaws.{ended_if}
use Rattle.child_pipeline.proofs.runner.Runner.finish_stage.Goals.{then-is_running, else-is_running}
use Rattle.child_pipeline.proofs.runner.Runner.finish_stage.Goals as goal

pub end-requires : goal.end-requires
end-requires g c = elim c.if-is_running.branch [
  | then-is_running w ↦ subst (λ (m : Slots). IsEnded (finite.get m c.args.job)) (sym w.self-is) w.finish.ensures.ended
  | else-is_running w ↦ subst (λ (m : Slots). IsEnded (finite.get m c.args.job)) (sym w.self-is) (ended_if (finite.get c.args.self.now c.args.job) c.requires (c.is_running.ensures.no w.if-is_running.false))
]

pub returns-clause-ended : goal.returns-clause-ended
returns-clause-ended g c = elim c.if-is_running.branch [
  | then-is_running w ↦ subst (λ (m : Slots). IsEnded (finite.get m c.args.job)) (sym w.self-is) w.finish.ensures.ended
  | else-is_running w ↦ subst (λ (m : Slots). IsEnded (finite.get m c.args.job)) (sym w.self-is) (ended_if (finite.get c.args.self.now c.args.job) c.requires (c.is_running.ensures.no w.if-is_running.false))
]
