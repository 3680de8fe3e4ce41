use Rattle.side_channel.proofs.RequestLaws.{front_of-spelling}
use Rattle.side_channel.proofs.laws.written_is_read.Goals as goal

pub returns : goal.returns
returns c = front_of-spelling
