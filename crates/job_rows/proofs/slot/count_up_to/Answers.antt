-- The closure returns whether a slot's number is at most the given one.
use Rattle.std.proofs.Common.{rules}
use Rattle.std.proofs.lemmas.List.Sorted.{IsPartitionPoint-from_clause}
use Rattle.std.proofs.Math.Dec.{leb}
use Rattle.job_rows.specs.declared.slot.Slot.{Slot}
use Rattle.job_rows.specs.RowSlots.{number_of}
use Rattle.job_rows.proofs.Holding.{parted_rows, parted_point}
use Rattle.job_rows.proofs.slot.count_up_to.Goals as goal

pub returns : goal.returns
returns c =
    let xs = c.args.slots.now in
    let test = λ (s : Slot). leb (number_of s) c.args.number in
    let point = IsPartitionPoint-from_clause test xs _ c.partition_point.ensures.partitioned (parted_rows xs c.requires c.args.number) (λ a r g called. (search rules, search rules)) in
    parted_point xs c.args.number _ c.partition_point.ensures.bound point.0 point.1
