use Rattle.service_client.proofs.Streams.{one_cut}
use Rattle.service_client.proofs.laws.one_reading.Goals as goal

pub returns : goal.returns
returns c = one_cut
