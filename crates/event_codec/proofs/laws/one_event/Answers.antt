use Rattle.std.proofs.Common.{[], ◌∙◌}
use Rattle.std.proofs.lemmas.List.{append-nil}
use Rattle.event_codec.specs.Spelling.{spelling}
use Rattle.event_codec.proofs.EventLaws.{one_event}
use Rattle.event_codec.proofs.laws.one_event.Goals as goal

pub returns : goal.returns
returns c = λ d e h i same. (one_event d e [] h i (append-nil (spelling d) ∙ same)).0
