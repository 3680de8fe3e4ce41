-- A step of a proof, and then its text.
use Rattle.std.proofs.Common.{refl}
use Rattle.service_loop.proofs.ClientStepLaws.{goes_offered}
use Rattle.service_loop.proofs.client.Client.offer_proof.Goals as goal

pub returns-clause-offered : goal.returns-clause-offered
returns-clause-offered g c = (_, goes_offered _ _ _ _ _ c.in_ok-path.ensures.step refl refl c.in_ok-push_offer.ensures)
