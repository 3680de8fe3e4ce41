-- The processing job is read from the queue's lane.
use Rattle.std.proofs.Common.{refl, ◌∙◌}
use Rattle.job_table.proofs.Busy.{lane_busy, none_busy}
use Rattle.job_table.proofs.table.Table.processing.Goals as goal

pub returns : goal.returns
returns c = c.processing.ensures ∙ lane_busy c.args.self.now.state c.in_ok-lane.ensures.legal c.args.queue.now c.in_ok-lane.field-0.now c.in_ok-lane.ensures.lane

pub returns-in_err-lane : goal.returns-in_err-lane
returns-in_err-lane c = c.from_residual.ensures ∙ none_busy c.args.self.now.state c.in_err-lane.ensures.legal c.args.queue.now (c.in_err-lane.ensures.absent.0 refl)
