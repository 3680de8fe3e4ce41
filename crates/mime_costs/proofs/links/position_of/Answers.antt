use Rattle.std.proofs.Common.{ap, sym, ◌∙◌}
use Rattle.mime_costs.specs.Conversions.{same}
use Rattle.mime_costs.proofs.PlaceLaws.{place_found, place_more, place_none}
use Rattle.mime_costs.proofs.links.position_of.Goals as goal

pub returns-then-eq : goal.returns-then-eq
returns-then-eq c =
    place_found c.args.conversions.now c.args.source.now c.loop-i.i c.index-conversions-i.result c.loop-i-test.true c.index-conversions-i.is
    (ap (λ s. same s c.args.source.now) (sym c.as_str.ensures.value) ∙ sym c.eq.ensures ∙ c.if-eq.true) c.loop-i.invariant

pub loop-i-preserved : goal.loop-i-preserved
loop-i-preserved c =
    place_more c.args.conversions.now c.args.source.now c.loop-i.i c.index-conversions-i.result c.loop-i-test.true c.index-conversions-i.is
    (ap (λ s. same s c.args.source.now) (sym c.as_str.ensures.value) ∙ sym c.eq.ensures ∙ c.if-eq.false) c.loop-i.invariant

pub returns : goal.returns
returns c = place_none c.args.conversions.now c.args.source.now c.loop-i.i c.loop-i-test.false c.loop-i.auto.i-end c.loop-i.invariant
