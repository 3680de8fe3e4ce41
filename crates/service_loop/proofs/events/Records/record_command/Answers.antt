-- One job was created.
use Rattle.std.proofs.Common.{refl}
use Rattle.service_loop.proofs.events.Records.record_command.Goals as goal

pub returns-in-Created : goal.returns-in-Created
returns-in-Created c = rw c.in-Created.is (c.record.new.self, c.record.ensures, refl)
