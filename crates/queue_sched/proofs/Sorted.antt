-- Entries that are sorted.
use Rattle.std.proofs.Common.{List}
use Rattle.std.specs.Cmp.{IsStrictWeakOrder}
use Rattle.std.specs.List.Sorted.{IsPermutation, IsSortedBy}
use Rattle.queue_sched.specs.WaitingIndex.{goes_before, HasEachOnce, InOrder}
use Rattle.queue_sched.specs.declared.entry.Entry.{Entry}
use Rattle.queue_sched.proofs.Numbered as numbered
use Rattle.queue_sched.proofs.TurnOrder.{itself, onward, not_onward, other_way}

pub ranked : IsStrictWeakOrder goes_before
ranked = numbered.ranked (λ (e : Entry). e.id) goes_before itself onward not_onward other_way

-- In any order each entry occurs once.
pub once_moved : (xs ys : List Entry) → IsPermutation xs ys → HasEachOnce xs → HasEachOnce ys
once_moved = numbered.once_moved (λ (e : Entry). e.id)

-- If no entry comes before an earlier one of the list, each comes before all later ones.
pub in_order : (xs : List Entry) → HasEachOnce xs → IsSortedBy goes_before xs → InOrder xs
in_order = numbered.in_order (λ (e : Entry). e.id) goes_before itself onward not_onward other_way
