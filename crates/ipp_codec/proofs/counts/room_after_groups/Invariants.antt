-- What is left of the room, and the values that are still to be counted.
use Rattle.std.proofs.Common.{◌≡◌, ◌+◌, drop}
use Rattle.std.specs.List.{sum_by}
use Rattle.ipp_codec.specs.MessageSpelling.{values_in}
use Rattle.ipp_codec.proofs.counts.room_after_groups.Given as goal

abbrev pub invariant-loop-group : goal.invariant-loop-group
invariant-loop-group l = l.left + sum_by values_in l.groups ≡ l.room + sum_by values_in (drop l.group-index l.groups)
