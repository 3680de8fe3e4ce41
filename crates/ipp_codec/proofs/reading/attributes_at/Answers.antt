use Rattle.std.proofs.Common.{◌≡◌, ◌+◌, ◌-◌, ap, sym, subst, arith, List}
use Rattle.std.specs.Int.{w8}
use Rattle.std.proofs.lemmas.Result.{err_from_is_err_and}
use Rattle.ipp_values.specs.declared.message.Attribute.{Attribute}
use Rattle.ipp_codec.specs.declared.fault.DecodeFault.TheVariants.{NeedMore, TooLarge}
use Rattle.ipp_codec.specs.Reading.{attribute_at, attributes_at, number_at}
use Rattle.ipp_codec.specs.ReadSteps.{before}
use Rattle.ipp_codec.proofs.Loops.{attributes_end, attributes_fail, attributes_next, attributes_over, attributes_stop, carried, ended, failed, goes_on}
use Rattle.ipp_codec.proofs.reading.attributes_at.Goals as goal

pub loop-init : goal.loop-init
loop-init c = let k : c.args.most - 0 ≡ c.args.most = omega arith in ap (λ m. before c.args.attributes.now (attributes_at c.args.most m c.args.octets.now)) k

pub returns-in_err-number : goal.returns-in_err-number
returns-in_err-number c =
    let total = before c.args.attributes.now (attributes_at c.args.most c.args.most c.args.octets.now) in
    let here = attributes_at c.args.most (c.args.most - c.loop.counter) c.loop.rest.now in
    let p = err_from_is_err_and c.from_residual.result c.from_residual.ensures.1 in
    rw (p.1, p.2) (carried c.in_err-number.field-0.0 (number_at NeedMore w8 c.loop.rest.now) total (λ d is. failed c.loop.attributes d here total (attributes_stop c.args.most c.loop.counter c.loop.rest.now d c.loop-test.true is) c.loop.invariant) c.in_err-number.ensures)

pub returns-then-number-lt-FIRST_VALUE_TAG : goal.returns-then-number-lt-FIRST_VALUE_TAG
returns-then-number-lt-FIRST_VALUE_TAG c =
    let total = before c.args.attributes.now (attributes_at c.args.most c.args.most c.args.octets.now) in
    let here = attributes_at c.args.most (c.args.most - c.loop.counter) c.loop.rest.now in
    ended c.loop.attributes c.loop.rest.now here total (attributes_end c.args.most c.loop.counter c.in_ok-number.number c.loop.rest.now _ c.loop-test.true c.in_ok-number.ensures c.if-number-lt-FIRST_VALUE_TAG.true) c.loop.invariant

pub returns-in_err-attribute : goal.returns-in_err-attribute
returns-in_err-attribute c =
    let total = before c.args.attributes.now (attributes_at c.args.most c.args.most c.args.octets.now) in
    let here = attributes_at c.args.most (c.args.most - c.loop.counter) c.loop.rest.now in
    let p = err_from_is_err_and c.from_residual-in_err-attribute.result c.from_residual-in_err-attribute.ensures.1 in
    rw (p.1, p.2) (carried c.in_err-attribute.field-0.0 (attribute_at c.args.most c.loop.rest.now) total (λ d is. failed c.loop.attributes d here total (attributes_fail c.args.most c.loop.counter c.in_ok-number.number c.loop.rest.now _ d c.loop-test.true c.in_ok-number.ensures c.if-number-lt-FIRST_VALUE_TAG.false is) c.loop.invariant) c.in_err-attribute.ensures)

pub loop-preserved : goal.loop-preserved
loop-preserved c =
    let total = before c.args.attributes.now (attributes_at c.args.most c.args.most c.args.octets.now) in
    let here = attributes_at c.args.most (c.args.most - c.loop.counter) c.loop.rest.now in
    let others = attributes_at c.args.most (c.args.most - (c.loop.counter + 1)) c.in_ok-attribute.after.now in
    let step = goes_on c.loop.attributes c.in_ok-attribute.attribute here others total (attributes_next c.args.most c.loop.counter c.in_ok-number.number c.loop.rest.now _ c.in_ok-attribute.after.now c.in_ok-attribute.attribute c.loop-test.true c.in_ok-number.ensures c.if-number-lt-FIRST_VALUE_TAG.false c.in_ok-attribute.ensures) c.loop.invariant in
    subst (λ (list : List Attribute). before list others ≡ total) (sym c.in_ok-push.ensures.ok) step

pub returns : goal.returns
returns c =
    let total = before c.args.attributes.now (attributes_at c.args.most c.args.most c.args.octets.now) in
    let here = attributes_at c.args.most (c.args.most - c.loop.counter) c.loop.rest.now in
    failed c.loop.attributes TooLarge here total (attributes_over c.args.most c.loop.counter c.loop.rest.now c.loop-test.false) c.loop.invariant
