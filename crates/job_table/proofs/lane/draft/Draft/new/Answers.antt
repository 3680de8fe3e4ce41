-- The draft has no jobs.
use Rattle.job_table.proofs.Drafts.{blank}
use Rattle.job_table.proofs.lane.draft.Draft.new.Goals as goal

pub returns : goal.returns
returns c = blank c.new.result c.new.ensures.items
