use Rattle.event_codec.specs.Spelling.{effect_code, IsEffect}
use Rattle.event_codec.proofs.Added.{has_place, next_added}
use Rattle.event_codec.proofs.effect_writing.put_listed.Goals as goal

pub put_effect-requires : goal.put_effect-requires
put_effect-requires c = record { room = has_place effect_code IsEffect c.args.out.now c.loop-effect.out c.args.effects.now c.loop-effect.effect-index c.effect-item.result c.effect-item.is c.loop-effect-test.true c.loop-effect.invariant c.requires.room }

pub loop-effect-preserved : goal.loop-effect-preserved
loop-effect-preserved c = next_added effect_code IsEffect c.args.out.now c.loop-effect.out c.put_effect.new.out c.args.effects.now c.loop-effect.effect-index c.effect-item.result c.effect-item.is c.loop-effect-test.true c.loop-effect.invariant c.put_effect.ensures.written c.put_effect.ensures.len c.put_effect.ensures.grown c.put_effect.ensures.legal
