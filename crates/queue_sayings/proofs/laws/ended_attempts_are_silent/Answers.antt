use Rattle.queue_sayings.proofs.SayingLaws.{silent}
use Rattle.queue_sayings.proofs.laws.ended_attempts_are_silent.Goals as goal

pub returns : goal.returns
returns c = silent
