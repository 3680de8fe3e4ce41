-- What is left of the room, and the values that are still to be counted.
use Rattle.std.proofs.Common.{◌≡◌, ◌+◌, drop}
use Rattle.std.specs.List.{sum_by}
use Rattle.ipp_codec.specs.MessageSpelling.{values_of}
use Rattle.ipp_codec.proofs.counts.room_after_attributes.Given as goal

abbrev pub invariant-loop-attribute : goal.invariant-loop-attribute
invariant-loop-attribute l = l.left + sum_by values_of l.attributes ≡ l.room + sum_by values_of (drop l.attribute-index l.attributes)
