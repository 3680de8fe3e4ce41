use Rattle.std.proofs.Common.{refl}
use Rattle.service_loop.proofs.ClientStepLaws.{gives_next}
use Rattle.service_loop.proofs.client.Client.next_asked.Goals as goal

pub returns-clause-next : goal.returns-clause-next
returns-clause-next g c = gives_next _ _ _ _ c.in_ok-next.ensures.ok refl refl refl
