use Rattle.std.proofs.Common.{ap, ◌∙◌}
use Rattle.mime_costs.specs.Costs.{least_in, is_taken}
use Rattle.mime_costs.proofs.SizeLaws.{size_more}
use Rattle.mime_costs.proofs.chain.best_size.Goals as goal

pub loop-i-preserved : goal.loop-i-preserved
loop-i-preserved c =
    size_more c.args.conversions.now c.args.positions c.args.rows.now c.loop-i.i c.index-rows-i.result c.loop-i-test.true c.index-rows-i.is c.loop-i.best c.better-best.result c.cost_from.result c.loop-i.invariant
    (c.cost_from.ensures ∙ ap (least_in (is_taken c.args.conversions.now c.args.positions) c.args.conversions.now) c.deref.ensures.value) c.better-best.ensures
