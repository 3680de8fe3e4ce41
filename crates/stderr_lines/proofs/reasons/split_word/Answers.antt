use Rattle.std.proofs.Common.{◌+◌, ◌∷◌, take, ap, sym, ◌∙◌}
use Rattle.std.proofs.lemmas.List.{take_rest}
use Rattle.std.specs.List.{slice_split}
use Rattle.stderr_lines.specs.ReasonLines.{is_separator}
use Rattle.stderr_lines.proofs.PieceLaws.{split_begin, split_here, split_more, split_end}
use Rattle.stderr_lines.proofs.reasons.split_word.Goals as goal

pub loop-i-init : goal.loop-i-init
loop-i-init c = split_begin is_separator c.args.text.now

pub returns-then-is_separator-clause-words : goal.returns-then-is_separator-clause-words
returns-then-is_separator-clause-words c =
    let xs = c.args.text.now in
    let i = c.loop-i.i in
    split_here is_separator xs i c.loop-i-test.true (slice_split is_separator xs) c.loop-i.invariant (sym c.is_separator.ensures ∙ c.if-is_separator.true)
    ∙ ap (λ l. take i xs ∷ slice_split is_separator l) (sym (take_rest xs (i + 1)))

pub loop-i-preserved : goal.loop-i-preserved
loop-i-preserved c = split_more is_separator c.args.text.now c.loop-i.i c.loop-i-test.true (slice_split is_separator c.args.text.now) c.loop-i.invariant (sym c.is_separator.ensures ∙ c.if-is_separator.false)

pub returns-clause-words : goal.returns-clause-words
returns-clause-words c = split_end is_separator c.args.text.now c.loop-i.i (slice_split is_separator c.args.text.now) c.loop-i-test.false c.loop-i.invariant
