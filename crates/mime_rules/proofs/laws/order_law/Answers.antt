use Rattle.mime_rules.proofs.OrderLaws.{beats-irreflexive, beats-transitive, beats-connected}
use Rattle.mime_rules.proofs.laws.order_law.Goals as goal

pub returns : goal.returns
returns c = record { irreflexive = beats-irreflexive; transitive = beats-transitive; connected = beats-connected }
