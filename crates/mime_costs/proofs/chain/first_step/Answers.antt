use Rattle.std.proofs.Common.{sym, ◌∙◌}
use Rattle.mime_costs.proofs.RowLaws.{step_here, step_more, no_step}
use Rattle.mime_costs.proofs.chain.first_step.Goals as goal

pub returns-then-is_step-clause-begins : goal.returns-then-is_step-clause-begins
returns-then-is_step-clause-begins c =
    step_here c.args.conversions.now c.args.links.now c.args.row.now c.loop-i.i c.index-conversions-i.result _ c.requires.links c.requires.row c.loop-i-test.true c.index-conversions-i.is
    c.args.positions c.args.cost _ (sym c.if-is_step.true ∙ c.is_step.ensures)

pub loop-i-preserved : goal.loop-i-preserved
loop-i-preserved c =
    step_more c.args.conversions.now c.args.links.now c.args.row.now c.loop-i.i c.index-conversions-i.result _ c.requires.links c.requires.row c.loop-i-test.true c.index-conversions-i.is
    c.args.positions c.args.cost (sym c.if-is_step.false ∙ c.is_step.ensures) c.loop-i.invariant

pub returns-clause-inside : goal.returns-clause-inside
returns-clause-inside c = absurd (no_step c.args.conversions.now c.args.row.now c.args.positions c.args.cost c.loop-i.i c.loop-i-test.false c.requires.there c.loop-i.invariant)

pub returns-clause-begins : goal.returns-clause-begins
returns-clause-begins c = absurd (no_step c.args.conversions.now c.args.row.now c.args.positions c.args.cost c.loop-i.i c.loop-i-test.false c.requires.there c.loop-i.invariant)
