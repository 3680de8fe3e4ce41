-- The slot is for the row that is found: a job's number is its key.
use Rattle.std.proofs.Common.{◌≡◌, Some, ap, sym, subst, ◌∙◌}
use Rattle.std.specs.FinMap as finite
use Rattle.std.specs.Option.{option_map, option_copied}
use Rattle.spool_types.specs.State.{Job, job_of, job_at}
use Rattle.child_pipeline.specs.StageSlots.{IsDue}
use Rattle.print_rounds.proofs.LaunchLaws.{some_of}
use Rattle.print_rounds.proofs.launches.start.Goals as goal

pub start_stage-requires : goal.start_stage-requires
start_stage-requires g c =
    let (r, q, row, queue, due) = c.requires in
    let found : job_at c.args.table.now.state c.args.job ≡ Some (job_of c.in-Some.row.now) = sym c.job.ensures.row ∙ ap (λ o. option_map job_of (option_copied o)) c.in-Some.is in
    let same : r ≡ job_of c.in-Some.row.now = some_of r (job_of c.in-Some.row.now) (sym row ∙ found) in
    let at : IsDue (finite.get c.args.runner.now c.args.job) c.in-Some.row.now.job.phase = subst (λ (x : Job). IsDue (finite.get c.args.runner.now c.args.job) x.phase) same due in
    subst (λ i. IsDue (finite.get c.args.runner.now i) c.in-Some.row.now.job.phase) (sym (c.jobs-legal.ensures.legal.jobs c.args.job (job_of c.in-Some.row.now) found).id) at
