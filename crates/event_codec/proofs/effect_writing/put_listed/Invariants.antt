use Rattle.std.proofs.Common.{take}
use Rattle.event_codec.specs.Spelling.{effect_code, IsEffect}
use Rattle.event_codec.proofs.Added.{AreAdded}
use Rattle.event_codec.proofs.effect_writing.put_listed.Given as goal

abbrev pub invariant-loop-effect : goal.invariant-loop-effect
invariant-loop-effect l = AreAdded effect_code IsEffect l.fn.out l.out (take l.effect-index l.effects)
