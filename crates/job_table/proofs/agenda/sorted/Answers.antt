-- The sorted dates are the given ones.
use Rattle.job_table.proofs.agenda.sorted.Goals as goal

pub returns-clause-dates : goal.returns-clause-dates
returns-clause-dates c = λ d. rw c.in_ok-reserve.ensures.items at c.of_items.ensures.items d
