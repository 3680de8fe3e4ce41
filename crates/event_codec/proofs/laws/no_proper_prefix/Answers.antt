use Rattle.event_codec.proofs.EventLaws.{one_event}
use Rattle.event_codec.proofs.laws.no_proper_prefix.Goals as goal

pub returns : goal.returns
returns c = λ d e rest h i same. (one_event d e rest h i same).1
