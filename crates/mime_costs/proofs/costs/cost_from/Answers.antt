use Rattle.mime_costs.proofs.RowLaws.{cost_more}
use Rattle.mime_costs.proofs.costs.cost_from.Goals as goal

pub loop-i-preserved : goal.loop-i-preserved
loop-i-preserved c =
    cost_more c.args.conversions.now c.args.links.now c.args.row.now c.loop-i.i c.index-conversions-i.result _ c.requires.links c.requires.row c.loop-i-test.true c.index-conversions-i.is
    c.args.positions c.loop-i.least c.cost_if_taken.result c.lesser-least.result c.loop-i.invariant c.cost_if_taken.ensures c.lesser-least.ensures
