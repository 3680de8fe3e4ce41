use Rattle.queue_sayings.proofs.SayingLaws.{lasting}
use Rattle.queue_sayings.proofs.laws.lasting_reasons_stay.Goals as goal

pub returns : goal.returns
returns c = lasting
