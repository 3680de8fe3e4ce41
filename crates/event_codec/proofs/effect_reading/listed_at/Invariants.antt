use Rattle.spool_types.specs.Effects.{most_effect_bytes}
use Rattle.event_codec.specs.EventReading.{effect_within}
use Rattle.event_codec.proofs.Loop.{IsFront}
use Rattle.event_codec.proofs.effect_reading.listed_at.Given as goal

abbrev pub invariant-loop : goal.invariant-loop
invariant-loop l = IsFront effect_within l.effects.items l.count l.counter (most_effect_bytes, l.bytes) (l.room, l.rest)
