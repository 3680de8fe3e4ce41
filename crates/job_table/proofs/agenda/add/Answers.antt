-- The list has room for each job, and the job has no date in it.
use Rattle.std.proofs.Common.{refl, ◌∙◌, Some, arith}
use Rattle.job_table.proofs.Redated.{lacks_date, room_for_date}
use Rattle.job_table.proofs.agenda.add.Goals as goal

pub prove-unreachable-requires : goal.prove-unreachable-requires
prove-unreachable-requires c =
    let spare = room_for_date c.args.list.now c.args.job (Some c.args.date) c.requires c.len.ensures.order in
    omega (arith, spare, c.if-prove.true, c.room.ensures, c.len.ensures.count)

pub insert-requires-clause-absent : goal.insert-requires-clause-absent
insert-requires-clause-absent c = λ d there same.
    lacks_date c.requires.date c.requires.jobs c.args.list.now.items c.requires.dates c.args.job c.requires.own d there (same ∙ c.requires.number c.args.date refl)
