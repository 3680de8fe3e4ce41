use Rattle.std.proofs.Common.{◌∙◌, List, ap, length, subst}
use Rattle.std.specs.FinMap as finite
use Rattle.spool_types.specs.State.{Job}
use Rattle.spool_admin.specs.DiskContents.{AreCounted}
use Rattle.spool_admin.proofs.found.count_rows.Goals as goal

pub returns-clause-counts : goal.returns-clause-counts
returns-clause-counts g c = λ r tells. record {
  table = c.in-Ok.spool.state;
  found = c.in-Ok.ensures.opened r tells;
  queues_are = ap length (c.queues-queues.ensures.rows ∙ ap (λ t. finite.values t.queues) c.table-table.ensures.table);
  jobs_are = subst (λ (jobs : List Job). AreCounted jobs c.count_jobs-jobs.result) (c.jobs.ensures.rows ∙ ap (λ t. finite.values t.jobs) c.table-table.ensures.table) c.count_jobs-jobs.ensures;
}
