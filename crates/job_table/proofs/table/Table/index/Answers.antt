-- The index of the queue's lane.
use Rattle.job_table.proofs.Indexed.{index_of}
use Rattle.job_table.proofs.table.Table.index.Goals as goal

pub returns-clause-each : goal.returns-clause-each
returns-clause-each c = index_of c.args.self.now.state c.in_ok-lane.ensures.legal c.args.name.now c.in_ok-lane.field-0.now c.in_ok-lane.ensures.lane
