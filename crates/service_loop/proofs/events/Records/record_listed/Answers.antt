-- One event is recorded.
use Rattle.std.proofs.Common.{refl}
use Rattle.service_loop.proofs.events.Records.record_listed.Goals as goal

pub returns-in-Some : goal.returns-in-Some
returns-in-Some c = rw c.in-Some.is (c.record.new.self, c.record.ensures, refl)
