use Rattle.queue_sayings.proofs.SayingLaws.{everything}
use Rattle.queue_sayings.proofs.laws.running_attempts_are_shown.Goals as goal

pub returns-clause-message : goal.returns-clause-message
returns-clause-message c = everything
