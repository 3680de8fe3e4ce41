-- The closure returns whether an entry comes before the given one.
use Rattle.std.proofs.Common.{rules}
use Rattle.std.proofs.lemmas.List.Sorted.{IsPartitionPoint-from_clause}
use Rattle.queue_sched.specs.WaitingIndex.{goes_before}
use Rattle.queue_sched.proofs.SlotLists.{parted}
use Rattle.queue_sched.proofs.slots.place_of.Goals as goal

pub returns-clause-before : goal.returns-clause-before
returns-clause-before c =
    (IsPartitionPoint-from_clause (λ s. goes_before s.entry c.args.entry.now) c.args.slots.now.items _ c.partition_point.ensures.partitioned
    (parted c.args.slots.now.items c.args.entry.now c.requires) (λ a r g called. (search rules, search rules))).0

pub returns-clause-behind : goal.returns-clause-behind
returns-clause-behind c =
    (IsPartitionPoint-from_clause (λ s. goes_before s.entry c.args.entry.now) c.args.slots.now.items _ c.partition_point.ensures.partitioned
    (parted c.args.slots.now.items c.args.entry.now c.requires) (λ a r g called. (search rules, search rules))).1
