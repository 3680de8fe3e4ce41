use Rattle.std.proofs.Common.{◌∙◌}
use Rattle.service_client.proofs.Growth.{ends_then, on_err, receives_then}
use Rattle.service_client.proofs.session.Session.wait_for_room.Goals as goal

pub returns-in_err-receive-clause-err : goal.returns-in_err-receive-clause-err
returns-in_err-receive-clause-err g c =
    on_err c.from_residual.result (ends_then _ _ _ _ _ _ _ c.loop.invariant.receives.grows c.in_err-receive.ensures.err)

pub loop-preserved : goal.loop-preserved
loop-preserved g c = record {
  receives = receives_then _ _ _ _ _ _ _ _ _ c.loop.invariant.receives c.in_ok-receive.ensures.receives;
  sent = c.in_ok-receive.ensures.sent ∙ c.loop.invariant.sent;
}
