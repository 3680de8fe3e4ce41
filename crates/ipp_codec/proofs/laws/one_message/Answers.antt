use Rattle.ipp_codec.proofs.DecodeLaws.{one_spelled}
use Rattle.ipp_codec.proofs.laws.one_message.Goals as goal

pub returns : goal.returns
returns c = one_spelled
