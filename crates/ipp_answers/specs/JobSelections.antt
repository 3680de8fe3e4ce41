-- The rows of a selection, as the facts state them.
use Rattle.std.specs.Prelude.{List, map}
use Rattle.requested_attributes.specs.AttributeGroups.{StatedRow}
use Rattle.ipp_answers.specs.JobSources.{stated}
use Rattle.ipp_answers.specs.declared.facts.JobFacts.{JobFacts}
use Rattle.ipp_answers.specs.declared.facts.Server.{Server}
use Rattle.ipp_answers.specs.declared.jobs.JobSelection.{JobSelection}

abbrev pub selected_job_rows : JobSelection → Server → JobFacts → List StatedRow
selected_job_rows selection s j = map (stated s j) selection.rows.items
