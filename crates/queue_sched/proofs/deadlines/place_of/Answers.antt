-- The closure returns whether a deadline comes before the given one.
use Rattle.std.proofs.Common.{rules}
use Rattle.std.proofs.lemmas.List.Sorted.{IsPartitionPoint-from_clause}
use Rattle.queue_sched.specs.Deadlines.{comes_before}
use Rattle.queue_sched.proofs.Earliest.{itself, onward}
use Rattle.queue_sched.proofs.Ordered.{parted}
use Rattle.queue_sched.proofs.deadlines.place_of.Goals as goal

pub returns-clause-before : goal.returns-clause-before
returns-clause-before c =
    (IsPartitionPoint-from_clause (λ d. comes_before d c.args.deadline.now) c.args.items.now.items _ c.partition_point.ensures.partitioned
    (parted comes_before itself onward c.args.items.now.items c.args.deadline.now c.requires) (λ a r g called. (search rules, search rules))).0

pub returns-clause-behind : goal.returns-clause-behind
returns-clause-behind c =
    (IsPartitionPoint-from_clause (λ d. comes_before d c.args.deadline.now) c.args.items.now.items _ c.partition_point.ensures.partitioned
    (parted comes_before itself onward c.args.items.now.items c.args.deadline.now c.requires) (λ a r g called. (search rules, search rules))).1
