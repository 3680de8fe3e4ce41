use Rattle.std.proofs.Common.{Some, ap, sym, subst, ◌∙◌}
use Rattle.std.specs.FinMap as finite
use Rattle.child_pipeline.specs.StageSlots.{begun_in, IsDue}
use Rattle.print_rounds.proofs.MadeLaws.{made_due, made_ready}
use Rattle.print_rounds.proofs.launches.make_due.Goals as goal

pub returns-in-Ok-clause-ok : goal.returns-in-Ok-clause-ok
returns-in-Ok-clause-ok g c =
    let due = made_due c.args.runner.now c.args.row.now c.in-Processing.attempt c.in-Processing.stage c.in-Processing.stages c.in-Processing.is (sym c.slot_at.ensures ∙ c.in-None.is) c.if-stage-ne1.false in
    let new = c.in-Ok.ensures.ok in
    (due ∙ ap Some (sym new), subst (λ m. IsDue (finite.get m c.args.row.now.id) c.args.row.now.phase) (sym new) (made_ready c.args.runner.now c.args.row.now c.in-Processing.attempt c.in-Processing.stage c.in-Processing.stages c.in-Processing.is))

pub returns-in-Err-clause-err : goal.returns-in-Err-clause-err
returns-in-Err-clause-err g c = record {
  own = begun_in c.args.runner.now c.args.row.now.id c.args.row.now.phase;
  due = made_due c.args.runner.now c.args.row.now c.in-Processing.attempt c.in-Processing.stage c.in-Processing.stages c.in-Processing.is (sym c.slot_at.ensures ∙ c.in-None.is) c.if-stage-ne1.false;
  same = c.in-Err.ensures.err;
}
