use Rattle.event_codec.proofs.RowLaws.{apart}
use Rattle.event_codec.proofs.laws.rows_are_no_events.Goals as goal

pub returns : goal.returns
returns c = λ v row e some more same. apart v row e some more same
