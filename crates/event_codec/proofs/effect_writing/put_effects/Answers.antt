use Rattle.std.proofs.Common.{arith}
use Rattle.event_codec.proofs.Sizes.{no_more_than_bytes}
use Rattle.event_codec.proofs.effect_writing.put_effects.Goals as goal

pub overflow_cast-effects : goal.overflow_cast-effects
overflow_cast-effects c = rw c.as_slice-effects.ensures.value (omega (arith, no_more_than_bytes c.args.effects.now, c.as_slice-effects.ensures.sound.short))
