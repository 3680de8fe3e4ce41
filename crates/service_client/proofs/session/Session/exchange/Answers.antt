use Rattle.std.proofs.Common.{◌≡◌, ◌++◌, List, ℕ, Option, subst, sym}
use Rattle.std.specs.Option.{option_to_list}
use Rattle.service_client.specs.Traces.{Adds}
use Rattle.service_client.specs.declared.pipeline.Answered.{Answered}
use Rattle.service_client.proofs.ExchangeLaws.{one_exchange, talk_more}
use Rattle.service_client.proofs.session.Session.exchange.Goals as goal

pub returns-in-Some-clause-talk : goal.returns-in-Some-clause-talk
returns-in-Some-clause-talk g c =
    let popped = subst (λ (o : Option (Answered g.row.T.Denot)). c.settle.new.answers.items ≡ c.pop.new.self.items ++ option_to_list o) c.in-Some.is c.pop.ensures.items in
    let one = one_exchange _ _ _ _ _ _ _ _ _ _ _ _ c.in_ok-send.ensures.sends c.in_ok-settle.ensures.receives c.new-answers.ensures.items c.requires c.in_ok-settle.ensures.settled popped in
    let adds = subst (λ (o : Option (List ℕ)). Adds (g.C.Connection.sent c.args.self.now.connection) c.args.text.now o) (sym c.in_ok-settle.ensures.sent) c.in_ok-send.ensures.sent in
    λ exchanges talk. talk_more _ _ _ _ _ _ _ _ exchanges one adds talk
