use Rattle.std.proofs.Common.{ap, sym, subst, ◌∙◌}
use Rattle.std.specs.FinMap as finite
use Rattle.std.specs.Option.{option_map, option_copied}
use Rattle.spool_types.specs.State.{job_of}
use Rattle.child_pipeline.specs.StageSlots.{IsTicketless}
use Rattle.print_rounds.proofs.PrepareLaws.{if_ok, on_err, prepared, unprepared}
use Rattle.print_rounds.proofs.launches.prepare.Goals as goal

pub make_due-requires-clause-fits : goal.make_due-requires-clause-fits
make_due-requires-clause-fits g c = (c.jobs-legal.ensures.legal.jobs c.args.job (job_of c.in-Some.row.now) (sym c.job.ensures.row ∙ ap (λ o. option_map job_of (option_copied o)) c.in-Some.is)).phase

pub make_due-requires-clause-rests : goal.make_due-requires-clause-rests
make_due-requires-clause-rests g c =
    let row = sym c.job.ensures.row ∙ ap (λ o. option_map job_of (option_copied o)) c.in-Some.is in
    subst (λ j. IsTicketless (finite.get c.args.runner.now j)) (sym (c.jobs-legal.ensures.legal.jobs c.args.job (job_of c.in-Some.row.now) row).id) c.requires

pub returns-clause-ok : goal.returns-clause-ok
returns-clause-ok g c =
    let row = sym c.job.ensures.row ∙ ap (λ o. option_map job_of (option_copied o)) c.in-Some.is in
    let queue = sym c.queue.ensures ∙ ap option_copied c.in-Some-queue.is in
    let id = (c.jobs-legal.ensures.legal.jobs c.args.job (job_of c.in-Some.row.now) row).id in
    if_ok c.make_due.result (λ due. prepared c.args.table.now.state c.args.runner.now c.args.job (job_of c.in-Some.row.now) c.in-Some-queue._queue.now row queue id due c.make_due.new.runner) c.make_due.ensures.ok

pub returns-clause-err : goal.returns-clause-err
returns-clause-err g c =
    let row = sym c.job.ensures.row ∙ ap (λ o. option_map job_of (option_copied o)) c.in-Some.is in
    let queue = sym c.queue.ensures ∙ ap option_copied c.in-Some-queue.is in
    on_err c.make_due.result (unprepared c.args.table.now.state c.args.runner.now c.args.job (job_of c.in-Some.row.now) c.in-Some-queue._queue.now row queue c.make_due.new.runner) c.make_due.ensures.err
