use Rattle.std.proofs.Common.{◌∷◌, [], arith, length-append}
use Rattle.std.proofs.lemmas.Result.{err_from_is_err_and}
use Rattle.event_codec.specs.EventReading.{text_at, list_at}
use Rattle.event_codec.proofs.Loop.{front_starts, goes_on, ends, is_done}
use Rattle.event_codec.proofs.fields.texts_at.Goals as goal

pub loop-init : goal.loop-init
loop-init g c = rw c.in_ok-texts.ensures.items (front_starts (text_at g.K.TextKind.allowed) c.args.count c.args.bytes.now)

pub returns-in_err-text-clause-read : goal.returns-in_err-text-clause-read
returns-in_err-text-clause-read g c =
    let one = text_at g.K.TextKind.allowed in
    let p = err_from_is_err_and c.from_residual-in_err-text.result c.from_residual-in_err-text.ensures.1 in
    rw (p.1, p.2) (ends c.in_err-text.field-0.0 one c.loop.texts.items c.args.count c.loop.counter c.loop.rest.now (list_at one c.args.count c.args.bytes.now) c.loop-test.true c.in_err-text.ensures.read c.loop.invariant.read)

pub loop-preserved : goal.loop-preserved
loop-preserved g c =
    let one = text_at g.K.TextKind.allowed in
    let t = c.in_ok-text.text in
    rw c.in_ok-push.ensures.items (record {
      read = goes_on one c.loop.texts.items c.args.count c.loop.counter c.loop.rest.now t c.in_ok-text.after.now (list_at one c.args.count c.args.bytes.now) c.loop-test.true c.in_ok-text.ensures.read c.loop.invariant.read;
      counted = omega (arith, c.loop.invariant.counted, length-append c.loop.texts.items (t ∷ []));
    })

pub returns-clause-read : goal.returns-clause-read
returns-clause-read g c = let one = text_at g.K.TextKind.allowed in is_done one c.loop.texts.items c.args.count c.loop.counter c.loop.rest.now (list_at one c.args.count c.args.bytes.now) c.loop-test.false c.loop.invariant.read
