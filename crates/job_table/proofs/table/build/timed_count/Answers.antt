-- The closure returns whether a row's job must start by a moment.
use Rattle.std.proofs.Common.{rules, tests, ◌∙◌}
use Rattle.std.specs.Prelude.{is_some}
use Rattle.std.proofs.lemmas.Iterator.Consumers.{count_from_yields_List, YieldsList-from_filter, YieldsList-from_first}
use Rattle.std.proofs.lemmas.List.Sums.{length-filter}
use Rattle.spool_types.specs.declared.rows.JobRow.{JobRow}
use Rattle.job_table.proofs.table.build.timed_count.Goals as goal

pub returns : goal.returns
returns c =
    count_from_yields_List c.filter.result _ c.count.ensures.ran
    (YieldsList-from_filter _ (λ (row : JobRow). is_some row.job.by) (YieldsList-from_first (λ x. x.now) (λ rest. rest) c.args.rows.now.items cc) c.filter.ensures.closure (λ x r q k. search (rules, tests)))
    ∙ length-filter (λ (row : JobRow). is_some row.job.by) c.args.rows.now.items
