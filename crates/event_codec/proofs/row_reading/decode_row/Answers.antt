use Rattle.std.proofs.Common.{ap, subst, ◌∙◌, arith}
use Rattle.event_codec.specs.EventReading.{Gives}
use Rattle.event_codec.specs.RowReading.{row_reading}
use Rattle.event_codec.proofs.RowLaws.{is_found_row, row_reading_again}
use Rattle.event_codec.proofs.row_reading.decode_row.Goals as goal

pub returns-clause-sound : goal.returns-clause-sound
returns-clause-sound c = is_found_row c.args.version c.args.payload.now c.row_of.result (λ i. omega (arith, c.type_inv.payload i)) c.row_of.ensures.read

pub returns-clause-complete : goal.returns-clause-complete
returns-clause-complete c = λ row legal same. subst (λ f. Gives (λ e. e) c.row_of.result f) (ap (λ bytes. row_reading c.args.version bytes) same ∙ row_reading_again c.args.version row legal) c.row_of.ensures.read
