-- The entries are those of the slots.
use Rattle.std.proofs.Common.{subst}
use Rattle.queue_sched.specs.Lists.{IsSameUntil}
use Rattle.queue_sched.proofs.waiting_entries.WaitingEntries.due.Goals as goal

pub returns : goal.returns
returns c = subst (λ w. IsSameUntil w.items c.args.now c.due_of.result) c.self.view_is c.due_of.ensures
