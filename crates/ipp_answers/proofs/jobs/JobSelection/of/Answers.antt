-- The rows of the table that are asked for.
use Rattle.std.proofs.Common.{◌∙◌, List, ap, map}
use Rattle.requested_attributes.specs.AttributeGroups.{is_wanted_row}
use Rattle.ipp_answers.specs.JobRows.{job_rows}
use Rattle.ipp_answers.specs.JobSources.{stated}
use Rattle.ipp_answers.specs.declared.job_sources.JobRow.{JobRow}
use Rattle.ipp_answers.proofs.SelectedRows.{chosen}
use Rattle.ipp_answers.proofs.jobs.JobSelection.of.Goals as goal

pub returns : goal.returns
returns c = λ s j.
    ap (λ (rows : List JobRow). map (stated s j) rows) c.in_ok-rows.ensures
    ∙ chosen (stated s j) (is_wanted_row c.args.asked) c.job_table.result.now (job_rows s j) (c.job_table.ensures s j)
