-- No job has a deadline.
use Rattle.job_table.proofs.Timely.{no_deadlines}
use Rattle.job_table.proofs.timetable.Timetable.new.Goals as goal

pub returns-clause-timely : goal.returns-clause-timely
returns-clause-timely c = no_deadlines c.new.result c.new.ensures.items
