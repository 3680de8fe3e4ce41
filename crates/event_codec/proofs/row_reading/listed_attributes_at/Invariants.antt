use Rattle.std.proofs.Common.{None, map}
use Rattle.event_codec.specs.RowSpelling.{name_of}
use Rattle.event_codec.specs.RowReading.{last_of, attribute_after}
use Rattle.event_codec.proofs.Loop.{IsFront}
use Rattle.event_codec.proofs.row_reading.listed_attributes_at.Given as goal

abbrev pub invariant-loop : goal.invariant-loop
invariant-loop l = IsFront attribute_after l.attributes.items l.count l.counter (None, l.bytes) (last_of (map name_of l.attributes.items), l.rest)
