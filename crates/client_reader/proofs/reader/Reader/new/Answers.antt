-- Nothing has arrived yet.
use Rattle.std.proofs.Common.{refl}
use Rattle.client_reader.proofs.Gives.{begins}
use Rattle.client_reader.proofs.reader.Reader.new.Goals as goal

pub returns : goal.returns
returns c = begins _ c.new.ensures c.new-2.ensures.items refl
