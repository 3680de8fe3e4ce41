use Rattle.std.proofs.Common.{rules, ap, sym, ◌∙◌}
use Rattle.std.specs.Prelude.{Err}
use Rattle.std.proofs.lemmas.Result.{err_from_is_err_and}
use Rattle.service_client.proofs.Growth.{ends_same, ends_then, ends_unasked, grows_more, on_err}
use Rattle.service_client.proofs.pipeline.Pipeline.take.Goals as goal

pub returns-in_err-take_byte-clause-err : goal.returns-in_err-take_byte-clause-err
returns-in_err-take_byte-clause-err g c =
    on_err c.from_residual.result (ends_then _ _ _ _ _ _ _ c.loop-byte.invariant (ends_same _ _ _ _ c.in_err-take_byte.ensures.err.0 c.in_err-take_byte.ensures.err.1))

pub returns-in_err-take_byte-clause-unasked : goal.returns-in_err-take_byte-clause-unasked
returns-in_err-take_byte-clause-unasked g c = λ e.
    let p = err_from_is_err_and c.from_residual.result c.from_residual.ensures.1 in
    let told = c.in_err-take_byte.ensures.unasked (ap (λ y. Err y) (sym p.2) ∙ sym p.1 ∙ e) in
    ends_unasked _ _ c.args.piece.now c.loop-byte.byte-index _ _ _ _ c.loop-byte.invariant told c.in_err-take_byte.ensures.err.0 c.loop-byte-test.true (search rules)

pub loop-byte-preserved : goal.loop-byte-preserved
loop-byte-preserved g c =
    grows_more _ _ _ c.args.piece.now c.loop-byte.byte-index _ _ _ _ c.loop-byte.invariant c.in_ok-take_byte.ensures.takes c.loop-byte-test.true (search rules)
