use Rattle.std.proofs.Common.{rules, sym, ap, ◌∙◌}
use Rattle.mime_costs.proofs.PlaceLaws.{same-eq}
use Rattle.mime_costs.proofs.StepLaws.{answer_lines}
use Rattle.mime_costs.proofs.WalkLaws.{chain_worth, empty_worth}
use Rattle.mime_costs.proofs.convs.Convs.chain.Goals as goal

pub returns-clause-lines : goal.returns-clause-lines
returns-clause-lines c = answer_lines c.args.self.now c.args.from.now c.args.to.now c.find_chain.result (search rules)

pub returns-clause-walk : goal.returns-clause-walk
returns-clause-walk c = chain_worth c.args.self.now c.args.from.now c.args.to.now c.find_chain.result (search rules)

pub returns-then-eq-clause-walk : goal.returns-then-eq-clause-walk
returns-then-eq-clause-walk c =
    empty_worth c.args.self.now c.args.from.now c.args.to.now (record { lines = c.new.result; cost = 0 }) (same-eq c.args.from.now c.args.to.now (sym c.eq.ensures ∙ c.if-eq.true)) (ap (λ l. record { cost = 0; lines = l }) c.new.ensures.items)
