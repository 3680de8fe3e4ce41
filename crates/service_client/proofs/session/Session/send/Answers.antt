use Rattle.std.proofs.Common.{ap, inl, inr}
use Rattle.std.specs.Prelude.{map}
use Rattle.service_client.specs.Pipelines.{standing}
use Rattle.service_client.proofs.Growth.{on_err, send_fails}
use Rattle.service_client.proofs.session.Session.send.Goals as goal

pub returns-in_err-ask-clause-err : goal.returns-in_err-ask-clause-err
returns-in_err-ask-clause-err g c =
    on_err _ (send_fails _ _ (standing c.ask.new.self) _ _ _ _ _ c.in_ok-wait_for_room.ensures.receives (inl (ap (map (λ asked. asked.tag)) c.in_err-ask.ensures.err)))

pub returns-clause-err : goal.returns-clause-err
returns-clause-err g c =
    on_err _ (send_fails _ _ (standing c.ask.new.self) _ _ _ _ _ c.in_ok-wait_for_room.ensures.receives (inr c.in_ok-ask.ensures.tags))
