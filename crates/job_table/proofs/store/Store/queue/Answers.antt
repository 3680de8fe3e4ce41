-- The row that was read is the one in the map.
use Rattle.std.proofs.Common.{Some, sym, ap, ◌∙◌}
use Rattle.std.specs.FinMap as finite
use Rattle.job_table.proofs.Tables.{get_queue, get_no_queue}
use Rattle.job_table.proofs.store.Store.queue.Goals as goal

pub returns-in-Ok : goal.returns-in-Ok
returns-in-Ok c =
    ap Some c.index.ensures
    ∙ sym (get_queue c.self.inside.queues.items c.self.invariant.queues c.args.name.now c.in-Ok.at c.index.result.now (rw c.deref.ensures.value at c.in-Ok.ensures.found))
    ∙ ap (λ v. finite.get v.state.queues c.args.name.now) c.self.view_is

pub returns-in-Err : goal.returns-in-Err
returns-in-Err c =
    sym (get_no_queue c.self.inside.queues.items c.self.invariant.queues c.args.name.now _ (rw c.deref.ensures.value at c.in-Err.ensures.absent))
    ∙ ap (λ v. finite.get v.state.queues c.args.name.now) c.self.view_is
