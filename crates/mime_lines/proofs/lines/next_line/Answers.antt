use Rattle.std.proofs.Common.{◌≡◌, ◌+◌, ◌∷◌, ap, sym, ◌∙◌, drop, length, arith}
use Rattle.std.proofs.lemmas.Bool.{eqb-false}
use Rattle.std.proofs.lemmas.List.{take_rest}
use Rattle.mime_lines.specs.JoinedLines.{lines_of}
use Rattle.mime_lines.proofs.LineLaws.{line_at, line_alone}
use Rattle.mime_lines.proofs.lines.next_line.Goals as goal

pub returns-then-b-eq-LINE_FEED-clause-lines : goal.returns-then-b-eq-LINE_FEED-clause-lines
returns-then-b-eq-LINE_FEED-clause-lines c =
    let text = c.args.text.now in
    line_at text c.loop-i.i c.loop-i-test.true c.if-b-eq-LINE_FEED.true c.loop-i.invariant
    ∙ ap (λ l. l ∷ lines_of (drop (c.loop-i.i + 1) text)) (sym c.without_cr.ensures)
    ∙ ap (λ l. c.without_cr.result.now ∷ lines_of l) (sym (take_rest text (c.loop-i.i + 1)))

pub returns-clause-lines : goal.returns-clause-lines
returns-clause-lines c =
    let text = c.args.text.now in
    let some : length text ≡ 0 → ⊥ = eqb-false (length text) 0 (sym c.is_empty.ensures ∙ c.if-is_empty.false) in
    line_alone text (omega (arith, some)) (λ k l. c.loop-i.invariant k (omega arith))
