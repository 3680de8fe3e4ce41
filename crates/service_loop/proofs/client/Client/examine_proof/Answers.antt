-- A step of a proof, and then its text.
use Rattle.std.proofs.Common.{refl}
use Rattle.service_loop.proofs.ClientStepLaws.{goes_offered}
use Rattle.service_loop.proofs.client.Client.examine_proof.Goals as goal

pub returns-clause-proved : goal.returns-clause-proved
returns-clause-proved g c = (c.in_ok-who.who, c.note_proof.ensures, goes_offered _ _ _ _ _ c.in_ok-who.ensures.step refl refl c.in_ok-push_proof.ensures)
