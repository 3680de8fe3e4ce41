-- No job has a date.
use Rattle.job_table.proofs.Redated.{no_agenda}
use Rattle.job_table.proofs.agenda.Agenda.new.Goals as goal

pub returns-clause-agenda : goal.returns-clause-agenda
returns-clause-agenda c = no_agenda c.new.result c.new-2.result c.new-3.result c.new.ensures.items c.new-2.ensures.items c.new-3.ensures.items
