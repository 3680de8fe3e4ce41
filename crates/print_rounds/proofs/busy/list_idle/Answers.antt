use Rattle.std.proofs.Common.{sym, subst, ap, ◌∙◌}
use Rattle.std.proofs.lemmas.List.{take_all}
use Rattle.print_rounds.specs.Finished.{AreDistinct, AllRest}
use Rattle.print_rounds.specs.StageChecks.{idle_among}
use Rattle.print_rounds.proofs.BusyLaws.{idle_distinct, idle_rests}
use Rattle.print_rounds.proofs.busy.list_idle.Goals as goal

pub returns-clause-distinct : goal.returns-clause-distinct
returns-clause-distinct g c =
    let slots = c.args.runner.now in
    let jobs = c.args.jobs.now in
    subst AreDistinct (sym (c.loop-job.invariant.idle ∙ ap (idle_among slots) (take_all c.loop-job.job-index jobs c.loop-job-test.false)))
    (idle_distinct slots jobs c.requires.distinct)

pub returns-clause-rest : goal.returns-clause-rest
returns-clause-rest g c =
    let slots = c.args.runner.now in
    let jobs = c.args.jobs.now in
    subst (AllRest slots) (sym (c.loop-job.invariant.idle ∙ ap (idle_among slots) (take_all c.loop-job.job-index jobs c.loop-job-test.false)))
    (idle_rests slots jobs)
