use Rattle.std.proofs.Common.{◌∷◌, [], Ok, ap, arith, length-append}
use Rattle.std.proofs.lemmas.Result.{err_from_is_err_and}
use Rattle.spool_types.specs.Effects.{most_effect_bytes}
use Rattle.event_codec.specs.EventReading.{◌>>=◌, effect_within, list_at, listed_at}
use Rattle.event_codec.proofs.Loop.{front_starts, goes_on, ends, is_done, fails_then}
use Rattle.event_codec.proofs.effect_reading.listed_at.Goals as goal

pub loop-init : goal.loop-init
loop-init c = rw c.in_ok-effects.ensures.items (front_starts effect_within c.args.count (most_effect_bytes, c.args.bytes.now))

pub returns-in_err-effect-clause-read : goal.returns-in_err-effect-clause-read
unfolding listed_at
returns-in_err-effect-clause-read c =
    let p = err_from_is_err_and c.from_residual-in_err-effect.result c.from_residual-in_err-effect.ensures.1 in
    let total = list_at effect_within c.args.count (most_effect_bytes, c.args.bytes.now) in
    let e = c.in_err-effect.field-0.0 in
    rw (p.1, p.2) (fails_then e total (λ effects. Ok (effects.0, effects.1.1)) (ends e effect_within c.loop.effects.items c.args.count c.loop.counter (c.loop.room, c.loop.rest.now) total c.loop-test.true c.in_err-effect.ensures c.loop.invariant.read))

pub loop-preserved : goal.loop-preserved
loop-preserved c =
    let x = c.in_ok-effect.effect in
    rw c.in_ok-push.ensures.items (record {
      read = goes_on effect_within c.loop.effects.items c.args.count c.loop.counter (c.loop.room, c.loop.rest.now) x (c.in_ok-effect.left, c.in_ok-effect.after.now) (list_at effect_within c.args.count (most_effect_bytes, c.args.bytes.now)) c.loop-test.true c.in_ok-effect.ensures c.loop.invariant.read;
      counted = omega (arith, c.loop.invariant.counted, length-append c.loop.effects.items (x ∷ []));
    })

pub returns-clause-read : goal.returns-clause-read
unfolding listed_at
returns-clause-read c =
    let total = list_at effect_within c.args.count (most_effect_bytes, c.args.bytes.now) in
    ap (λ r. r >>= λ effects. Ok (effects.0, effects.1.1)) (is_done effect_within c.loop.effects.items c.args.count c.loop.counter (c.loop.room, c.loop.rest.now) total c.loop-test.false c.loop.invariant.read)
