use Rattle.std.proofs.Common.{None}
use Rattle.event_codec.specs.RowReading.{last_of, reason_after}
use Rattle.event_codec.proofs.Loop.{IsFront}
use Rattle.event_codec.proofs.row_reading.listed_reasons_at.Given as goal

abbrev pub invariant-loop : goal.invariant-loop
invariant-loop l = IsFront reason_after l.reasons.items l.count l.counter (None, l.bytes) (last_of l.reasons.items, l.rest)
