-- The closure compares the moment of a deadline with the given one.
use Rattle.std.proofs.Common.{ℕ, ◌≡◌, ◌<◌, ◌≤◌, true, false, nat_lt, nat_le, length, get_or, subst, arith, rules}
use Rattle.std.proofs.lemmas.Bool.Decides.{nat_tests}
use Rattle.std.proofs.lemmas.List.Sorted.{IsPartitionPoint-from_clause}
use Rattle.std.specs.List.{AllWithin}
use Rattle.queue_sched.specs.Deadlines.{Limits}
use Rattle.queue_sched.specs.declared.deadlines.Deadline.{Deadline}
use Rattle.queue_sched.proofs.Earliest.{parted_by, before_earlier}
use Rattle.queue_sched.proofs.deadlines.Deadlines.count_before.Goals as goal

passed : (a m : ℕ) → nat_lt a m ≡ true → a < m
passed a m is = grind (arith, nat_tests)

not_passed : (a m : ℕ) → nat_lt a m ≡ false → m ≤ a
not_passed a m is = grind (arith, nat_tests)

pub returns-clause-before : goal.returns-clause-before
returns-clause-before c = subst (λ (w : Limits). AllWithin (λ (d : Deadline). d.by < c.args.moment) w.items 0 c.partition_point.result) c.self.view_is
    (λ k d low high. passed (get_or c.self.inside.items.items k d).by c.args.moment
    ((IsPartitionPoint-from_clause (λ (d : Deadline). nat_lt d.by c.args.moment) c.self.inside.items.items _ c.partition_point.ensures.partitioned
    (parted_by (λ a. nat_lt a c.args.moment) (before_earlier c.args.moment) c.self.inside.items.items c.self.invariant.order) (λ a r g called. (search rules, search rules))).0 k d low high))

pub returns-clause-behind : goal.returns-clause-behind
returns-clause-behind c = subst (λ (w : Limits). AllWithin (λ (d : Deadline). c.args.moment ≤ d.by) w.items c.partition_point.result (length w.items)) c.self.view_is
    (λ k d low high. not_passed (get_or c.self.inside.items.items k d).by c.args.moment
    ((IsPartitionPoint-from_clause (λ (d : Deadline). nat_lt d.by c.args.moment) c.self.inside.items.items _ c.partition_point.ensures.partitioned
    (parted_by (λ a. nat_lt a c.args.moment) (before_earlier c.args.moment) c.self.inside.items.items c.self.invariant.order) (λ a r g called. (search rules, search rules))).1 k d low high))
