-- A job that must start by a moment and has no deadline in the list is one of the jobs for which there is room.
use Rattle.std.proofs.Common.{◌<◌, length, refl, arith}
use Rattle.job_table.proofs.Timely.{room_for_one}
use Rattle.job_table.proofs.timetable.Timetable.list.Goals as goal

pub prove-unreachable-requires : goal.prove-unreachable-requires
prove-unreachable-requires c =
    let spare : length c.args.self.now.deadlines.items < c.args.self.now.timed =
    room_for_one c.requires.jobs c.args.self.now c.requires.timely c.len.ensures.order c.args.deadline.id c.requires.own (c.requires.number c.args.deadline refl).1 in
    omega (arith, spare, c.if-prove.true)
