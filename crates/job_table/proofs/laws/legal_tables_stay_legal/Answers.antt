use Rattle.job_table.proofs.Legal.{legal_nothing, legal_after_all}
use Rattle.job_table.proofs.laws.legal_tables_stay_legal.Goals as goal

pub returns-clause-begins : goal.returns-clause-begins
returns-clause-begins c = legal_nothing

pub returns-clause-stays : goal.returns-clause-stays
returns-clause-stays c = λ s events. legal_after_all c.queues_stay_in_order.ensures.stays events s
