use Rattle.std.proofs.Common.{subst, sym, ap, ◌∙◌, None, refl}
use Rattle.std.specs.FinMap as finite
use Rattle.child_pipeline.specs.StageSlots.{FinishesFrom, put_progress, slot_in, with_progress, IsEnded}
use Rattle.child_pipeline.specs.declared.runner.Progress.TheVariants.{Ready, Ended}
use Rattle.child_pipeline.proofs.PutLaws.{put_twice, finish_kept, get_own}
use Rattle.child_pipeline.proofs.runner.Runner.finish.Goals as goal

pub returns-clause-finishes : goal.returns-clause-finishes
returns-clause-finishes g c =
    subst (λ p. FinishesFrom p (g.C.Children.tells c.args.children.now) c.args.self.now c.args.job c.exchange_progress-2.new.self (g.C.Children.tells c.finish-answer.new.self))
    c.in-Running.ensures.old
    (record {
      finish = c.kept-finish.result;
      slots = c.exchange_progress-2.ensures.new ∙ ap (λ m. put_progress m c.args.job (Ended c.kept-finish.result)) c.exchange_progress.ensures.new ∙ put_twice c.args.self.now c.args.job (Ready None) (Ended c.kept-finish.result);
      answer = finish_kept _ _ c.finish-answer.result c.kept-finish.result _ c.kept-finish.ensures c.finish-answer.ensures;
    })

pub returns-clause-ended : goal.returns-clause-ended
returns-clause-ended g c =
    subst IsEnded
    (sym (ap (λ m. finite.get m c.args.job) c.exchange_progress-2.ensures.new ∙ get_own c.exchange_progress.new.self c.args.job (with_progress (slot_in c.exchange_progress.new.self c.args.job) (Ended c.kept-finish.result))))
    refl
