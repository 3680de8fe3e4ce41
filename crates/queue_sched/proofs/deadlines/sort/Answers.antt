-- The closure compares two deadlines.
use Rattle.std.proofs.Common.{◌≡◌, rules}
use Rattle.std.proofs.lemmas.Fn.{always_returns_same}
use Rattle.std.specs.Ordering.{is_lt}
use Rattle.queue_sched.specs.Deadlines.{comes_before}
use Rattle.queue_sched.specs.declared.deadlines.Deadline.{Deadline}
use Rattle.queue_sched.proofs.Earliest.{itself, onward, not_onward, other_way}
use Rattle.queue_sched.proofs.Numbered.{ranked, once_moved, in_order}
use Rattle.queue_sched.proofs.deadlines.sort.Goals as goal

pub returns-clause-order : goal.returns-clause-order
returns-clause-order c =
    let sorting = c.sort_unstable_by.ensures in
    let sorted = c.sort_unstable_by.new.self.items in
    in_order (λ (d : Deadline). d.id) comes_before itself onward not_onward other_way sorted (once_moved (λ (d : Deadline). d.id) c.args.items.now.items sorted sorting.permutation c.requires)
    (sorting.sorted comes_before (ranked (λ (d : Deadline). d.id) comes_before itself onward not_onward other_way) (always_returns_same _ (λ a r. is_lt r ≡ comes_before a.0.now a.1.0.now) _ (λ a r f called. (search rules, search rules))))
