-- The effects of one stage do not exceed the maximum length of the list.
use Rattle.std.proofs.Common.{◌≡◌, ◌≤◌, length, ap, sym, subst, ◌∙◌, arith}
use Rattle.std.proofs.lemmas.Bool.{false≢true}
use Rattle.spool_types.specs.Effects.{AreEffects, effects_size}
use Rattle.spool_types.proofs.Rooms.{few}
use Rattle.spool_types.proofs.effects.Effects.new.Goals as goal

pub returns-in_err-effects-clause-sound : goal.returns-in_err-effects-clause-sound
returns-in_err-effects-clause-sound c =
    let es = c.args.effects.items in
    let are : AreEffects c.deref.result.now = c.are_effects.ensures.yes c.if-not-are_effects.false in
    let size = are.short in
    let count = few c.deref.result.now in
    let n : length c.deref.result.now ≤ 16384 = omega arith in
    let m : length es ≤ 16384 = subst (λ l. length l ≤ 16384) c.deref.ensures.value n in
    absurd (false≢true (c.in_err-effects.ensures.short.1 m))
