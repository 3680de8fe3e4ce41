use Rattle.std.proofs.Common.{rules, arith, ◌≡◌, ◌∙◌, []}
use Rattle.std.proofs.lemmas.Grind.{common_steps}
use Rattle.service_client.proofs.ExchangeLaws.{hears_more, still_settled}
use Rattle.service_client.proofs.session.Session.receive_lines.Goals as goal

pub loop-preserved : goal.loop-preserved
loop-preserved g c =
    let none : c.take_rows-lines.result.items ≡ [] = grind (arith, common_steps) in
    let settled = c.take_rows-lines.ensures.tags ∙ c.loop.invariant.settled in
    record {
      hears = hears_more _ _ _ _ _ _ _ _ _ _ c.loop.invariant.hears c.in_ok-receive.ensures.receives c.take_rows-lines.ensures.rows none settled;
      settled = still_settled _ _ _ _ _ _ c.in_ok-receive.ensures.receives settled;
      sent = c.in_ok-receive.ensures.sent ∙ c.loop.invariant.sent;
    }
