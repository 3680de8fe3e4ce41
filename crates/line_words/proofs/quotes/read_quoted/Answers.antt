use Rattle.std.proofs.Common.{◌+◌, false, take, drop, refl, ap, sym, ◌∙◌, Some}
use Rattle.std.proofs.lemmas.List.{take_rest, take_more}
use Rattle.std.proofs.lemmas.List.Folds.{list_any_at}
use Rattle.std.proofs.lemmas.Bool.{false≢true}
use Rattle.line_words.specs.Quotes.{is_backslash, with_bytes, quoted}
use Rattle.line_words.proofs.QuoteLaws.{with_bytes-nil, quoted_end, quoted_close, quoted_more}
use Rattle.line_words.proofs.quotes.read_quoted.Goals as goal

pub loop-i-init : goal.loop-i-init
loop-i-init c = with_bytes-nil (quoted false c.args.line.now)

pub returns-then-is_quote-clause-value : goal.returns-then-is_quote-clause-value
returns-then-is_quote-clause-value c =
    let line = c.args.line.now in
    let i = c.loop-i.i in
    ap (λ l. Some (take i line, l)) (take_rest line (i + 1))
    ∙ quoted_close line (take i line) i c.loop-i-test.true false (quoted false line) c.loop-i.invariant refl (sym c.is_quote.ensures.value ∙ c.if-is_quote.true)

pub loop-i-preserved : goal.loop-i-preserved
loop-i-preserved c =
    let line = c.args.line.now in
    let i = c.loop-i.i in
    ap (λ l. with_bytes l (quoted false (drop (i + 1) line))) (take_more line i 0 c.loop-i-test.true)
    ∙ quoted_more line (take i line) i c.loop-i-test.true false (quoted false line) c.loop-i.invariant refl (sym c.is_quote.ensures.value ∙ c.if-is_quote.false) (sym c.is_backslash.ensures.value ∙ c.if-is_backslash.false)

pub returns-then-is_backslash-clause-lent : goal.returns-then-is_backslash-clause-lent
returns-then-is_backslash-clause-lent c = λ none.
    absurd (false≢true (sym none ∙ list_any_at is_backslash c.args.line.now c.loop-i.i 0 c.loop-i-test.true (sym c.is_backslash.ensures.value ∙ c.if-is_backslash.true)))

pub returns-clause-value : goal.returns-clause-value
returns-clause-value c = quoted_end c.args.line.now (take c.loop-i.i c.args.line.now) c.loop-i.i false (quoted false c.args.line.now) c.loop-i-test.false c.loop-i.invariant
