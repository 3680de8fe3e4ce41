use Rattle.queue_sched.proofs.Next.{tested}
use Rattle.queue_sched.proofs.laws.order_law.Goals as goal

pub returns-clause-tested : goal.returns-clause-tested
returns-clause-tested c = tested
