-- The reader takes the bytes that the connection brought.
use Rattle.std.proofs.Common.{refl, take}
use Rattle.service_loop.proofs.ClientStepLaws.{goes_read}
use Rattle.service_loop.proofs.client.Client.read.Goals as goal

pub returns-in_ok-take-in-Ok-clause-goes : goal.returns-in_ok-take-in-Ok-clause-goes
returns-in_ok-take-in-Ok-clause-goes g c =
    goes_read _ _ (take c.in-Ok.count c.read_of.new.piece) _ (record {
      consumed = c.in-Ok.ensures.bytes.0;
      kept = c.in-Ok.ensures.kept;
      took = c.in_ok-take-in-Ok.ensures.awaits;
      taken = refl;
      replies = refl;
    }) c.in-Ok.ensures.proofs
