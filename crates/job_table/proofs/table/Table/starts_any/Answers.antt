-- No queue has a next job.
use Rattle.std.proofs.Common.{ap, length, arith}
use Rattle.job_table.proofs.DueDates.{no_row_starts}
use Rattle.job_table.proofs.table.Table.starts_any.Goals as goal

pub returns-clause-none : goal.returns-clause-none
returns-clause-none c = λ _.
    no_row_starts c.args.self.now.state c.queues-queue-items.ensures.legal c.queues-queue-items.result.now c.queues-queue-items.ensures.rows c.loop-queue.queue-index (omega (arith, c.loop-queue-test.false)) c.loop-queue.invariant
