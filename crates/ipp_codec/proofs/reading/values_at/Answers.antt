use Rattle.std.proofs.Common.{ℕ, Ok, rules, true, ◌≡◌, ◌+◌, ◌-◌, false, ap, sym, subst, ◌∙◌, arith, List, []}
use Rattle.std.proofs.lemmas.Result.{err_from_is_err_and}
use Rattle.ipp_values.specs.declared.value.Value.{Value}
use Rattle.ipp_codec.specs.declared.fault.DecodeFault.TheVariants.{TooLarge, Collection}
use Rattle.ipp_codec.specs.Collections.{is_outside}
use Rattle.ipp_codec.specs.Reading.{additional_at, follows, values_at}
use Rattle.ipp_codec.specs.ReadSteps.{before}
use Rattle.ipp_codec.proofs.Fields.{checked_again}
use Rattle.ipp_codec.proofs.Loops.{carried, checked_not, ended, failed, goes_on, not_false, not_true, values_end, values_fail, values_next, values_over, values_stop}
use Rattle.ipp_codec.proofs.reading.values_at.Goals as goal

pub loop-init : goal.loop-init
loop-init c = let k : c.args.most - 0 ≡ c.args.most = omega arith in ap (λ m. before c.args.values.now (values_at m c.args.start c.args.octets.now)) k

pub returns-in_err-more : goal.returns-in_err-more
returns-in_err-more c =
    let total = before c.args.values.now (values_at c.args.most c.args.start c.args.octets.now) in
    let here = values_at (c.args.most - c.loop.counter) c.loop.place c.loop.rest.now in
    let p = err_from_is_err_and c.from_residual.result c.from_residual.ensures.1 in
    rw (p.1, p.2) (carried c.in_err-more.field-0.0 (follows c.loop.place c.loop.rest.now) total (λ d is. failed c.loop.values d here total (values_stop c.args.most c.loop.counter c.loop.place c.loop.rest.now d c.loop-test.true is) c.loop.invariant) c.in_err-more.ensures)

pub returns-then-is_outside : goal.returns-then-is_outside
returns-then-is_outside c =
    let total = before c.args.values.now (values_at c.args.most c.args.start c.args.octets.now) in
    let here = values_at (c.args.most - c.loop.counter) c.loop.place c.loop.rest.now in
    let off : c.in_ok-more.more ≡ false = search (rules, not_true, c.if-not-more.true) in
    let end = values_end c.args.most c.loop.counter c.loop.place c.loop.rest.now c.loop-test.true (c.in_ok-more.ensures ∙ ap (λ b. Ok b) off) in
    ended c.loop.values c.loop.rest.now here total (end ∙ checked_again {A = List Value × List ℕ} Collection (is_outside c.loop.place) ([], c.loop.rest.now) (sym c.is_outside.ensures ∙ c.if-is_outside.true)) c.loop.invariant

pub returns-then-not-more : goal.returns-then-not-more
returns-then-not-more c =
    let total = before c.args.values.now (values_at c.args.most c.args.start c.args.octets.now) in
    let here = values_at (c.args.most - c.loop.counter) c.loop.place c.loop.rest.now in
    let off : c.in_ok-more.more ≡ false = search (rules, not_true, c.if-not-more.true) in
    let end = values_end c.args.most c.loop.counter c.loop.place c.loop.rest.now c.loop-test.true (c.in_ok-more.ensures ∙ ap (λ b. Ok b) off) in
    failed c.loop.values Collection here total (end ∙ checked_not {A = List Value × List ℕ} Collection (is_outside c.loop.place) ([], c.loop.rest.now) (sym c.is_outside.ensures ∙ c.if-is_outside.false)) c.loop.invariant

pub returns-in_err-next : goal.returns-in_err-next
returns-in_err-next c =
    let total = before c.args.values.now (values_at c.args.most c.args.start c.args.octets.now) in
    let here = values_at (c.args.most - c.loop.counter) c.loop.place c.loop.rest.now in
    let more : c.in_ok-more.more ≡ true = search (rules, not_false, c.if-not-more.false) in
    let on = c.in_ok-more.ensures ∙ ap (λ b. Ok b) more in
    let p = err_from_is_err_and c.from_residual-in_err-next.result c.from_residual-in_err-next.ensures.1 in
    rw (p.1, p.2) (carried c.in_err-next.field-0.0 (additional_at c.loop.place c.loop.rest.now) total (λ d is. failed c.loop.values d here total (values_fail c.args.most c.loop.counter c.loop.place c.loop.rest.now d c.loop-test.true on is) c.loop.invariant) c.in_err-next.ensures)

pub loop-preserved : goal.loop-preserved
loop-preserved c =
    let total = before c.args.values.now (values_at c.args.most c.args.start c.args.octets.now) in
    let here = values_at (c.args.most - c.loop.counter) c.loop.place c.loop.rest.now in
    let others = values_at (c.args.most - (c.loop.counter + 1)) c.in_ok-next.next c.in_ok-next.after.now in
    let more : c.in_ok-more.more ≡ true = search (rules, not_false, c.if-not-more.false) in
    let on = c.in_ok-more.ensures ∙ ap (λ b. Ok b) more in
    let step = goes_on c.loop.values c.in_ok-next.value here others total (values_next c.args.most c.loop.counter c.loop.place c.in_ok-next.next c.in_ok-next.value c.loop.rest.now c.in_ok-next.after.now c.loop-test.true on c.in_ok-next.ensures) c.loop.invariant in
    subst (λ (vs : List Value). before vs others ≡ total) (sym c.in_ok-push.ensures.ok) step

pub returns : goal.returns
returns c =
    let total = before c.args.values.now (values_at c.args.most c.args.start c.args.octets.now) in
    let here = values_at (c.args.most - c.loop.counter) c.loop.place c.loop.rest.now in
    failed c.loop.values TooLarge here total (values_over c.args.most c.loop.counter c.loop.place c.loop.rest.now c.loop-test.false) c.loop.invariant
