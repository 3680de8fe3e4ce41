use Rattle.queue_sayings.proofs.SayingLaws.{same_line}
use Rattle.queue_sayings.proofs.laws.messages_are_for_those_who_see_all.Goals as goal

pub returns : goal.returns
returns c = same_line
