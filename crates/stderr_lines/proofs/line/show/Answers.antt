use Rattle.std.proofs.Common.{◌<◌, length, get_or, slice_set, ap, ◌∙◌, arith}
use Rattle.std.proofs.lemmas.List.{get_or_default}
use Rattle.std.proofs.lemmas.List.Edits.{map_over_more}
use Rattle.stderr_lines.specs.LineEffects.{shown_byte}
use Rattle.stderr_lines.proofs.line.show.Goals as goal

pub loop-i-preserved : goal.loop-i-preserved
loop-i-preserved c =
    let xs = c.args.bytes.now in
    let ys = c.loop-i.bytes in
    let i = c.loop-i.i in
    let x = get_or ys i 0 in
    let within : i < length ys = omega (arith, c.loop-i.auto.bytes) in
    ap (λ v. slice_set ys i v) c.shown_byte.ensures ∙ map_over_more shown_byte xs ys i x c.loop-i-test.true c.loop-i.invariant (get_or_default ys i 0 x within)
