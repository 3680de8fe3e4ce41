-- The sorted deadlines are the given ones.
use Rattle.std.proofs.Common.{arith}
use Rattle.job_table.proofs.Timely.{sorted_timely}
use Rattle.job_table.proofs.timetable.Timetable.of_deadlines.Goals as goal

pub returns : goal.returns
returns c =
    sorted_timely c.args.deadlines.items c.args.timed c.of_items.result (λ d. rw c.in_ok-reserve.ensures.items at c.of_items.ensures.items d)
    (omega (arith, c.of_items.ensures.room, c.in_ok-reserve.ensures.ok, c.in_ok-reserve.ensures.len, c.len.ensures, c.requires.few))
