use Rattle.std.proofs.Common.{arith}
use Rattle.event_codec.proofs.EffectLaws.{are_effects}
use Rattle.event_codec.proofs.effect_reading.effects_at.Goals as goal

pub unreachable-requires : goal.unreachable-requires
unreachable-requires c =
    let are = are_effects c.args.bytes.now c.in_ok-count.count c.in_ok-count.rest.now c.in_ok-effects.effects.items c.in_ok-effects.rest.now (λ i. omega (arith, c.type_inv.bytes i)) c.in_ok-count.ensures.read c.in_ok-effects.ensures.read in
    absurd (cc (c.in-Err.ensures.sound.1 are))
