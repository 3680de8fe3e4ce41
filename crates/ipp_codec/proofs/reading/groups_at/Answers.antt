use Rattle.std.proofs.Common.{rules, true, false, eqb, ◌≡◌, ◌+◌, ◌-◌, ap, sym, subst, arith, List}
use Rattle.std.specs.Int.{w8}
use Rattle.std.proofs.lemmas.Bool.{eq-eqb, ne_eqb}
use Rattle.std.proofs.lemmas.Result.{err_from_is_err_and}
use Rattle.ipp_values.specs.declared.message.Group.{Group}
use Rattle.ipp_codec.specs.declared.fault.DecodeFault.TheVariants.{NeedMore, TooLarge}
use Rattle.ipp_codec.specs.Reading.{group_at, groups_at, number_at}
use Rattle.ipp_codec.specs.ReadSteps.{before}
use Rattle.ipp_codec.proofs.Loops.{carried, ended, failed, goes_on, groups_end, groups_fail, groups_next, groups_over, groups_stop}
use Rattle.ipp_codec.proofs.reading.groups_at.Goals as goal

pub loop-init : goal.loop-init
loop-init c = let k : c.args.most - 0 ≡ c.args.most = omega arith in ap (λ m. before c.args.groups.now (groups_at c.args.most m c.args.octets.now)) k

pub returns-in_err-number : goal.returns-in_err-number
returns-in_err-number c =
    let total = before c.args.groups.now (groups_at c.args.most c.args.most c.args.octets.now) in
    let here = groups_at c.args.most (c.args.most - c.loop.counter) c.loop.rest.now in
    let p = err_from_is_err_and c.from_residual.result c.from_residual.ensures.1 in
    rw (p.1, p.2) (carried c.in_err-number.field-0.0 (number_at NeedMore w8 c.loop.rest.now) total (λ d is. failed c.loop.groups d here total (groups_stop c.args.most c.loop.counter c.loop.rest.now d c.loop-test.true is) c.loop.invariant) c.in_err-number.ensures)

pub returns-then-number-eq-END_OF_ATTRIBUTES : goal.returns-then-number-eq-END_OF_ATTRIBUTES
returns-then-number-eq-END_OF_ATTRIBUTES c =
    let total = before c.args.groups.now (groups_at c.args.most c.args.most c.args.octets.now) in
    let here = groups_at c.args.most (c.args.most - c.loop.counter) c.loop.rest.now in
    let end : eqb c.in_ok-number.number 3 ≡ true = search (rules, eq-eqb, c.if-number-eq-END_OF_ATTRIBUTES.true) in
    ended c.loop.groups c.in_ok-number.after.now here total (groups_end c.args.most c.loop.counter c.in_ok-number.number c.loop.rest.now c.in_ok-number.after.now c.loop-test.true c.in_ok-number.ensures end) c.loop.invariant

pub returns-in_err-group : goal.returns-in_err-group
returns-in_err-group c =
    let total = before c.args.groups.now (groups_at c.args.most c.args.most c.args.octets.now) in
    let here = groups_at c.args.most (c.args.most - c.loop.counter) c.loop.rest.now in
    let other : eqb c.in_ok-number.number 3 ≡ false = search (rules, ne_eqb, c.if-number-eq-END_OF_ATTRIBUTES.false) in
    let p = err_from_is_err_and c.from_residual-in_err-group.result c.from_residual-in_err-group.ensures.1 in
    rw (p.1, p.2) (carried c.in_err-group.field-0.0 (group_at c.args.most c.in_ok-number.number c.in_ok-number.after.now) total (λ d is. failed c.loop.groups d here total (groups_fail c.args.most c.loop.counter c.in_ok-number.number c.loop.rest.now c.in_ok-number.after.now d c.loop-test.true c.in_ok-number.ensures other is) c.loop.invariant) c.in_err-group.ensures)

pub loop-preserved : goal.loop-preserved
loop-preserved c =
    let total = before c.args.groups.now (groups_at c.args.most c.args.most c.args.octets.now) in
    let here = groups_at c.args.most (c.args.most - c.loop.counter) c.loop.rest.now in
    let others = groups_at c.args.most (c.args.most - (c.loop.counter + 1)) c.in_ok-group.left.now in
    let other : eqb c.in_ok-number.number 3 ≡ false = search (rules, ne_eqb, c.if-number-eq-END_OF_ATTRIBUTES.false) in
    let step = goes_on c.loop.groups c.in_ok-group.group here others total (groups_next c.args.most c.loop.counter c.in_ok-number.number c.loop.rest.now c.in_ok-number.after.now c.in_ok-group.left.now c.in_ok-group.group c.loop-test.true c.in_ok-number.ensures other c.in_ok-group.ensures) c.loop.invariant in
    subst (λ (list : List Group). before list others ≡ total) (sym c.in_ok-push.ensures.ok) step

pub returns : goal.returns
returns c =
    let total = before c.args.groups.now (groups_at c.args.most c.args.most c.args.octets.now) in
    let here = groups_at c.args.most (c.args.most - c.loop.counter) c.loop.rest.now in
    failed c.loop.groups TooLarge here total (groups_over c.args.most c.loop.counter c.loop.rest.now c.loop-test.false) c.loop.invariant
