-- The lane has no jobs.
use Rattle.std.proofs.Common.{◌∙◌}
use Rattle.job_table.proofs.Lanes.{empty_lane}
use Rattle.job_table.proofs.lane.Lane.new.Goals as goal

pub returns-clause-lane : goal.returns-clause-lane
returns-clause-lane c = empty_lane c.advance.new.self (c.advance.ensures.items ∙ c.new-index.ensures.items)
