-- The attributes of the rows so far.
use Rattle.std.proofs.Common.{◌≡◌, map, take}
use Rattle.std.specs.List.{filter_map}
use Rattle.requested_attributes.specs.AttributeGroups.{attribute_of}
use Rattle.ipp_answers.specs.JobSources.{stated}
use Rattle.ipp_answers.proofs.jobs.attributes_of.Given as goal

abbrev pub invariant-loop-row : goal.invariant-loop-row
invariant-loop-row l = l.attributes ≡ filter_map attribute_of (map (stated l.server l.job) (take l.row-index l.rows))
