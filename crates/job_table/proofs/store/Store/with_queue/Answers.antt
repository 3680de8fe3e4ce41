-- In a legal table the job's queue exists.
use Rattle.std.proofs.Common.{◌≡◌, Some, sym, ap, ◌∙◌}
use Rattle.std.specs.FinMap as finite
use Rattle.spool_types.specs.State.{job_of, job_at}
use Rattle.job_table.specs.TableFields.{contents_of}
use Rattle.job_table.proofs.Numbered.{no_row, row_there}
use Rattle.job_table.proofs.Tables.{get_queue, get_no_queue, needed_and_not}
use Rattle.job_table.proofs.store.Store.with_queue.Goals as goal

pub unreachable-requires : goal.unreachable-requires
unreachable-requires c =
    needed_and_not _ _ c.requires
    (no_row c.self.inside.jobs c.self.invariant.own c.self.invariant.jobs c.args.job c.in_default.ensures.absent)
    (ap (λ v. finite.get v.state.jobs c.args.job) c.self.view_is)

pub unreachable-requires-in_default-queue_position : goal.unreachable-requires-in_default-queue_position
unreachable-requires-in_default-queue_position c =
    let there : job_at (contents_of c.self.inside).state c.args.job ≡ Some (job_of c.in-Some.row.now) =
    row_there c.self.inside.jobs c.self.invariant.own c.self.invariant.jobs c.args.job c.in-Some.row.now c.in-Some.ensures.found in
    let none = get_no_queue c.self.inside.queues.items c.self.invariant.queues c.in-Some.row.now.job.queue c.in_default-queue_position.field-0 (rw c.deref.ensures.value at c.in_default-queue_position.ensures.absent) in
    needed_and_not _ _ (c.self.invariant.legal.jobs c.args.job (job_of c.in-Some.row.now) there).queue none (λ i. finite.get (contents_of c.self.inside).state.queues c.in-Some.row.now.job.queue)

pub returns-clause-job : goal.returns-clause-job
returns-clause-job c =
    ap (λ v. finite.get v.state.jobs c.args.job) (sym c.self.view_is)
    ∙ row_there c.self.inside.jobs c.self.invariant.own c.self.invariant.jobs c.args.job c.in-Some.row.now c.in-Some.ensures.found

pub returns-clause-queue : goal.returns-clause-queue
returns-clause-queue c =
    ap (λ v. finite.get v.state.queues c.in-Some.row.now.job.queue) (sym c.self.view_is)
    ∙ get_queue c.self.inside.queues.items c.self.invariant.queues c.in-Some.row.now.job.queue c.in-Ok.queue_at c.index.result.now (rw c.deref.ensures.value at c.in-Ok.ensures.found)
    ∙ ap Some (sym c.index.ensures)
