use Rattle.queue_sched.proofs.Indexed.{next_of_index}
use Rattle.queue_sched.proofs.laws.index_law.Goals as goal

pub returns-clause-next : goal.returns-clause-next
returns-clause-next c = λ jobs name stopped w e index free first. next_of_index jobs name stopped w index e free first
