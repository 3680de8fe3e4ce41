-- The entries are those of the slots.
use Rattle.std.proofs.Common.{◌≡◌, IfSome, subst}
use Rattle.std.specs.Option.{IsNone, option_copied}
use Rattle.std.specs.List.{Contains}
use Rattle.queue_sched.specs.WaitingIndex.{LacksJob}
use Rattle.queue_sched.proofs.waiting_entries.WaitingEntries.find.Goals as goal

pub returns-clause-found : goal.returns-clause-found
returns-clause-found c = subst (λ w. IfSome (option_copied c.find.result) (λ e. Contains w.items e × (e.id ≡ c.args.id))) c.self.view_is c.find.ensures.found

pub returns-clause-absent : goal.returns-clause-absent
returns-clause-absent c = subst (λ w. IsNone c.find.result → LacksJob w.items c.args.id) c.self.view_is c.find.ensures.absent
