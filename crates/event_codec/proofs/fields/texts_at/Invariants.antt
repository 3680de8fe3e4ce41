use Rattle.event_codec.specs.EventReading.{text_at}
use Rattle.event_codec.proofs.Loop.{IsFront}
use Rattle.event_codec.proofs.fields.texts_at.Given as goal

abbrev pub invariant-loop : goal.invariant-loop
invariant-loop g l = IsFront (text_at g.K.TextKind.allowed) l.texts.items l.count l.counter l.bytes l.rest
