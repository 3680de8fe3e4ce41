-- The test of the rows is that of their jobs.
use Rattle.std.proofs.Common.{rules, tests, ◌∙◌}
use Rattle.std.proofs.lemmas.Iterator.Consumers.{YieldsList-from_first}
use Rattle.std.proofs.lemmas.Iterator.Search.{any_from_yields_List}
use Rattle.spool_types.specs.declared.rows.JobRow.{JobRow}
use Rattle.queue_edits.specs.EditRefusals.{is_unended_of}
use Rattle.queue_edits.proofs.Edits.{any_row}
use Rattle.queue_edits.proofs.refusals.has_unended.Goals as goal

pub returns : goal.returns
returns c =
    let rows = c.jobs-jobs.result.now.items in
    any_from_yields_List (λ (row : JobRow). is_unended_of c.args.name.now row.job) _ _ _ c.any.ensures.ran
    (YieldsList-from_first (λ x. x.now) (λ rest. rest) rows cc) (λ x b q k. search (rules, tests))
    ∙ any_row (is_unended_of c.args.name.now) c.args.table.now.state rows c.jobs-jobs.ensures.rows
