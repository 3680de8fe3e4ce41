-- The closure returns the retry of a row's job.
use Rattle.std.proofs.Common.{rules, tests}
use Rattle.std.proofs.lemmas.Iterator.{items_from_collect}
use Rattle.std.proofs.lemmas.Iterator.Consumers.{YieldsList-from_filter_map, YieldsList-from_first}
use Rattle.spool_types.specs.declared.rows.JobRow.{JobRow}
use Rattle.job_table.specs.Agendas.{retry_date}
use Rattle.job_table.proofs.table.build.retries_of.Goals as goal

pub returns : goal.returns
returns c =
    items_from_collect _ c.collect.ensures.ran
    (YieldsList-from_filter_map _ (λ (row : JobRow). retry_date row.job) (YieldsList-from_first (λ x. x.now) (λ rest. rest) c.args.rows.now.items cc) c.filter_map.ensures.closure (λ x r q k. search (rules, tests)))
