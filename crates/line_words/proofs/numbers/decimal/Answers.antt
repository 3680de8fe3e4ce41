use Rattle.std.proofs.Common.{◌-◌, get_or, refl, arith}
use Rattle.line_words.proofs.NumberLaws.{too_great}
use Rattle.line_words.proofs.numbers.decimal.Goals as goal

pub returns-then-most-value-clause-value : goal.returns-then-most-value-clause-value
returns-then-most-value-clause-value c =
    let xs = c.args.word.now in
    let i = c.loop-b.b-index in
    too_great c.args.most xs i c.loop-b.value c.loop-b-test.true c.loop-b.invariant.same (get_or xs i 0 - 48) refl (omega (arith, c.from.ensures))
