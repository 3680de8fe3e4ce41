use Rattle.std.proofs.Common.{ap, sym, subst, ◌∙◌, refl}
use Rattle.spool_types.specs.declared.event.Event.TheVariants.{Stage}
use Rattle.spool_types.specs.declared.event.StageEnd.{StageEnd}
use Rattle.print_rounds.specs.RunStates.{run_state, IsApplied, moved}
use Rattle.print_rounds.specs.declared.outcome.Report.TheVariants as reports
use Rattle.print_rounds.proofs.TraceLaws.{silent_end, spoken_end}
use Rattle.print_rounds.proofs.ends.end_stage.Goals as goal

pub returns-then-is_silent : goal.returns-then-is_silent
returns-then-is_silent g c =
    let old = run_state c.args.spool.now c.args.runner.now (g.C.Children.tells c.args.children.now) in
    (old, silent_end g.D.Disk.device old c.args.job (sym c.is_silent.ensures ∙ c.if-is_silent.true))

pub returns-in-Ok : goal.returns-in-Ok
returns-in-Ok g c =
    let old = run_state c.args.spool.now c.args.runner.now (g.C.Children.tells c.args.children.now) in
    let kept = run_state c.args.spool.now c.finish_stage.new.self (g.C.Children.tells c.finish_stage.new.children) in
    let next = run_state c.report-answer.new.spool c.report-answer.new.runner (g.C.Children.tells c.finish_stage.new.children) in
    let answer = subst (λ e. IsApplied g.D.Disk.device c.args.spool.now (Stage e) c.report-answer.result c.report-answer.new.spool) c.in-Ok.ensures.end c.report-answer.ensures.answer in
    let slots = c.report-answer.ensures.slots ∙ ap (λ (e : StageEnd). moved c.finish_stage.new.self e.job c.report-answer.result) c.in-Ok.ensures.end in
    (kept, spoken_end g.D.Disk.device old kept next c.args.job (reports.Answered c.report-answer.result) (sym c.is_silent.ensures ∙ c.if-is_silent.false) c.finish_stage.ensures.finishes refl (answer, slots, refl))

pub returns-in-Err : goal.returns-in-Err
returns-in-Err g c =
    let old = run_state c.args.spool.now c.args.runner.now (g.C.Children.tells c.args.children.now) in
    let kept = run_state c.args.spool.now c.finish_stage.new.self (g.C.Children.tells c.finish_stage.new.children) in
    (kept, spoken_end g.D.Disk.device old kept kept c.args.job reports.NoMemory (sym c.is_silent.ensures ∙ c.if-is_silent.false) c.finish_stage.ensures.finishes refl refl)
