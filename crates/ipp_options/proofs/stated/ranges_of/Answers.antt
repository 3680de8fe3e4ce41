use Rattle.std.proofs.Common.{◌+◌, List, [], map, drop, ap, sym, ◌∙◌, Bor, ℕ}
use Rattle.ipp_values.specs.declared.value.Value.{Value}
use Rattle.ipp_options.specs.StatedAttributes.{ranges_of}
use Rattle.ipp_options.proofs.RangeLaws.{range_more, range_stops}
use Rattle.ipp_options.proofs.stated.ranges_of.Goals as goal

abbrev nowhere : Bor (List ℕ)
nowhere = record { ref_ptr = (0, 0); now = [] }

pub returns-in-None : goal.returns-in-None
returns-in-None c =
    c.empty.ensures
    ∙ sym (range_stops c.args.texts.now c.loop-text.text-index nowhere c.loop-text-test.true c.loop-text.values (sym c.range_in.ensures ∙ c.in-None.is))
    ∙ c.loop-text.invariant

pub loop-text-preserved : goal.loop-text-preserved
loop-text-preserved c =
    ap (λ (values : List Value). ranges_of values (map (λ text. text.now) (drop (c.loop-text.text-index + 1) c.args.texts.now))) c.in_ok-push-in-Some.ensures.ok
    ∙ sym (range_more c.args.texts.now c.loop-text.text-index nowhere c.loop-text-test.true c.loop-text.values c.in-Some.range (sym c.range_in.ensures ∙ c.in-Some.is))
    ∙ c.loop-text.invariant
