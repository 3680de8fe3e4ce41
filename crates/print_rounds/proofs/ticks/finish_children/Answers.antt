use Rattle.std.proofs.Common.{Some, sym, subst}
use Rattle.child_pipeline.specs.StageSlots.{IsNextJob}
use Rattle.print_rounds.proofs.FinishLaws.{AreFinishedTo, all_finished, all_rest_then, finished_off, none_yet, stays, waits}
use Rattle.print_rounds.proofs.ticks.finish_children.Goals.{then-is_running, else-is_running}
use Rattle.print_rounds.proofs.ticks.finish_children.Goals as goal

pub loop-job-init : goal.loop-job-init
loop-job-init g c = none_yet c.args.runner.now (g.C.Children.tells c.args.children.now)

pub loop-job-preserved : goal.loop-job-preserved
loop-job-preserved g c =
    let tells = g.C.Children.tells in
    let old = c.args.runner.now in
    let told = tells c.args.children.now in
    let job = c.in-Some.job in
    let next : IsNextJob c.loop-job.runner c.loop-job.behind (Some job) = subst (IsNextJob c.loop-job.runner c.loop-job.behind) c.in-Some.is c.next_job.ensures in
    elim c.if-is_running.branch [
      | then-is_running w ↦
          subst (λ m. AreFinishedTo old told (Some job) m (tells c.if-is_running.children)) (sym w.runner-is)
          (subst (λ ch. AreFinishedTo old told (Some job) w.finish.new.self (tells ch)) (sym w.children-is)
          (waits old told c.loop-job.behind c.loop-job.runner (tells c.loop-job.children) c.loop-job.invariant job next c.tickets_stay.ensures.finishes w.finish.new.self (tells w.finish.new.children)
          (c.is_running.ensures.yes w.if-is_running.true) w.finish.ensures.finishes w.finish.ensures.ended))
      | else-is_running w ↦
          subst (λ m. AreFinishedTo old told (Some job) m (tells c.if-is_running.children)) (sym w.runner-is)
          (subst (λ ch. AreFinishedTo old told (Some job) c.loop-job.runner (tells ch)) (sym w.children-is)
          (stays old told c.loop-job.behind c.loop-job.runner (tells c.loop-job.children) c.loop-job.invariant job next (c.is_running.ensures.no w.if-is_running.false)))
    ]

pub returns-clause-steps : goal.returns-clause-steps
returns-clause-steps g c =
    let tells = g.C.Children.tells in
    all_finished c.args.runner.now (tells c.args.children.now) c.loop-job.behind c.loop-job.runner (tells c.loop-job.children) c.loop-job.invariant
    (subst (IsNextJob c.loop-job.runner c.loop-job.behind) c.in_default.is c.next_job.ensures)

pub returns-clause-rest : goal.returns-clause-rest
returns-clause-rest g c =
    let tells = g.C.Children.tells in
    all_rest_then c.args.runner.now (tells c.args.children.now) c.loop-job.behind c.loop-job.runner (tells c.loop-job.children) c.loop-job.invariant
    (subst (IsNextJob c.loop-job.runner c.loop-job.behind) c.in_default.is c.next_job.ensures)

pub returns-clause-finished : goal.returns-clause-finished
returns-clause-finished g c =
    let tells = g.C.Children.tells in
    λ t told has. finished_off c.loop-job.runner t (tells c.loop-job.children) (c.loop-job.invariant.kept t told has)
    (all_rest_then c.args.runner.now (tells c.args.children.now) c.loop-job.behind c.loop-job.runner (tells c.loop-job.children) c.loop-job.invariant
    (subst (IsNextJob c.loop-job.runner c.loop-job.behind) c.in_default.is c.next_job.ensures))
