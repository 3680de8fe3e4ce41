-- The piece follows the earlier text.
use Rattle.std.proofs.Common.{refl}
use Rattle.client_reader.proofs.Gives.{takes}
use Rattle.client_reader.proofs.reader.Reader.take.Goals as goal

pub returns-clause-awaits : goal.returns-clause-awaits
returns-clause-awaits c = λ asks a. takes c.args.self.now _ c.args.piece.now refl c.in_ok-extend_from_slice.ensures.items refl asks a
