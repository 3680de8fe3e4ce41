-- The entries are those of the list.
use Rattle.std.proofs.Common.{subst}
use Rattle.std.specs.Option.{IsNone}
use Rattle.queue_sched.specs.WaitingIndex.{LacksJob}
use Rattle.queue_sched.proofs.index.Index.entry.Goals as goal

pub returns-clause-absent : goal.returns-clause-absent
returns-clause-absent c = subst (λ w. IsNone c.find.result → LacksJob w.items c.args.id) c.self.view_is c.find.ensures.absent
