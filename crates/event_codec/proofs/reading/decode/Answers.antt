use Rattle.std.proofs.Common.{ap, subst, ◌∙◌, arith}
use Rattle.event_codec.specs.EventReading.{Gives, reading}
use Rattle.event_codec.proofs.EventLaws.{is_found, reading_again}
use Rattle.event_codec.proofs.reading.decode.Goals as goal

pub returns-clause-sound : goal.returns-clause-sound
returns-clause-sound c = is_found c.args.payload.now c.event_of.result (λ i. omega (arith, c.type_inv.payload i)) c.event_of.ensures.read

pub returns-clause-complete : goal.returns-clause-complete
returns-clause-complete c = λ event legal same. subst (λ f. Gives (λ e. e) c.event_of.result f) (ap (λ bytes. reading bytes) same ∙ reading_again event legal) c.event_of.ensures.read
