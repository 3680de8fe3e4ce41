-- The pages after the visited effects.
use Rattle.std.proofs.Common.{◌≡◌, take}
use Rattle.row_effects.specs.EffectFold.{pages_after}
use Rattle.row_effects.proofs.pages.pages_after.Given as goal

abbrev pub invariant-loop-effect : goal.invariant-loop-effect
invariant-loop-effect l = l.after ≡ pages_after (take l.effect-index l.effects) l.fn.pages
