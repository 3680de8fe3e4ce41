-- All waiting jobs are jobs that have not ended.
use Rattle.std.proofs.Common.{◌≤◌, length, arith}
use Rattle.job_table.proofs.Lanes.{as_many_wait, lacks}
use Rattle.job_table.proofs.lane.Lane.list.Goals as goal

pub insert-requires-clause-absent : goal.insert-requires-clause-absent
insert-requires-clause-absent c = lacks c.requires.there.seats _ c.args.entry.id c.requires.there.lane c.requires.there.own

pub prove-unreachable-requires : goal.prove-unreachable-requires
prove-unreachable-requires c =
    let waiting = c.args.self.now.index.items in
    let most : length waiting ≤ c.args.self.now.live = as_many_wait c.requires.there.seats c.args.self.now c.requires.there.lane c.len-waiting.ensures.order in
    omega (arith, most, c.len-waiting.ensures.count, c.if-prove.true, c.requires.room)
