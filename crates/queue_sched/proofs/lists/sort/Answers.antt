-- The closure compares two entries.
use Rattle.std.proofs.Common.{◌≡◌, rules}
use Rattle.std.proofs.lemmas.Fn.{always_returns_same}
use Rattle.std.specs.Ordering.{is_lt}
use Rattle.queue_sched.specs.WaitingIndex.{goes_before}
use Rattle.queue_sched.proofs.Sorted.{ranked, once_moved, in_order}
use Rattle.queue_sched.proofs.lists.sort.Goals as goal

pub returns-clause-order : goal.returns-clause-order
returns-clause-order c =
    let sorting = c.sort_unstable_by.ensures in
    in_order c.sort_unstable_by.new.self.items (once_moved c.args.entries.now.items c.sort_unstable_by.new.self.items sorting.permutation c.requires)
    (sorting.sorted goes_before ranked (always_returns_same _ (λ a r. is_lt r ≡ goes_before a.0.now a.1.0.now) _ (λ a r f called. (search rules, search rules))))
