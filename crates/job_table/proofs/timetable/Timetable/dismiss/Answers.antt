-- One job less, and no removed deadline.
use Rattle.std.proofs.Common.{arith}
use Rattle.job_table.proofs.Timely.{dismissed_free, dismissed_timed}
use Rattle.job_table.proofs.timetable.Timetable.dismiss.Goals as goal

pub returns-then-timed-clause-timely : goal.returns-then-timed-clause-timely
returns-then-timed-clause-timely c = λ old new j is gone. dismissed_timed old new j c.args.self.now is c.args.timed gone c.if-timed.true _ (let some = c.requires c.if-timed.true in omega (arith, some))

pub returns-else-timed-clause-timely : goal.returns-else-timed-clause-timely
returns-else-timed-clause-timely c = λ old new j is gone. dismissed_free old new j c.args.self.now is c.args.timed gone
