-- One more job, and no new deadline.
use Rattle.std.proofs.Common.{refl}
use Rattle.job_table.proofs.Timely.{admitted_free, admitted_timed}
use Rattle.job_table.proofs.timetable.Timetable.admit.Goals as goal

pub returns-then-timed-clause-timely : goal.returns-then-timed-clause-timely
returns-then-timed-clause-timely c = λ old new j is admitted. admitted_timed old new j c.args.self.now is c.args.timed admitted _ refl c.requires.room

pub returns-else-timed-clause-timely : goal.returns-else-timed-clause-timely
returns-else-timed-clause-timely c = λ old new j is admitted. admitted_free old new j c.args.self.now is c.args.timed admitted c.if-timed.false
