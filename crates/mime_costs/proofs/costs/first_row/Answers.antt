use Rattle.std.proofs.Common.{cond, Some, None, map, ap, ◌∙◌}
use Rattle.std.proofs.lemmas.List.{take_all}
use Rattle.mime_costs.specs.Conversions.{same}
use Rattle.mime_costs.specs.Costs.{least}
use Rattle.mime_costs.proofs.costs.first_row.Goals as goal

pub returns : goal.returns
unfolding least
returns c = c.loop-conversion.invariant ∙ ap (map (λ c'. cond (same c'.destination c.args.to.now) (Some 0) None)) (take_all c.loop-conversion.conversion-index c.args.conversions.now c.loop-conversion-test.false)
