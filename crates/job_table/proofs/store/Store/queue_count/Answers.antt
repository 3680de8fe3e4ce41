-- The number of entries is the number of rows.
use Rattle.std.proofs.Common.{sym, ap, ◌∙◌}
use Rattle.std.specs.FinMap as finite
use Rattle.job_table.proofs.Tables.{len_queues}
use Rattle.job_table.proofs.store.Store.queue_count.Goals as goal

pub returns : goal.returns
returns c =
    c.len.ensures
    ∙ c.self.inside.queues.ok.0
    ∙ sym (len_queues c.self.inside.queues.items c.self.invariant.queues)
    ∙ ap (λ v. finite.len v.state.queues) c.self.view_is
