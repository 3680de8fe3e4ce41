use Rattle.std.proofs.Common.{◌+◌, ◌∷◌, take, drop, ap, sym, ◌∙◌, subst}
use Rattle.std.proofs.lemmas.List.{take_rest}
use Rattle.stderr_lines.specs.EffectDrafts.{IsLineText}
use Rattle.line_words.specs.Quoting.{next, pieces}
use Rattle.line_words.specs.declared.quoting.Quoting.TheVariants.{Bare}
use Rattle.stderr_lines.proofs.TextLaws.{front_text, rest_text}
use Rattle.stderr_lines.proofs.QuotingLaws.{words_begin, words_here, words_more, words_end}
use Rattle.stderr_lines.proofs.quoting.split_word.Goals as goal

pub loop-i-init : goal.loop-i-init
loop-i-init c = words_begin Bare c.args.text.now

pub returns-then-is_cut-clause-words : goal.returns-then-is_cut-clause-words
returns-then-is_cut-clause-words c =
    let xs = c.args.text.now in
    let i = c.loop-i.i in
    words_here c.loop-i.quote_state xs i c.loop-i-test.true (pieces Bare xs) c.loop-i.invariant (sym c.is_cut.ensures ∙ c.if-is_cut.true)
    ∙ ap (λ l. take i xs ∷ pieces Bare l) (sym (take_rest xs (i + 1)))

pub returns-then-is_cut-clause-word : goal.returns-then-is_cut-clause-word
returns-then-is_cut-clause-word c = front_text c.loop-i.i c.args.text.now c.requires

pub returns-then-is_cut-clause-rest : goal.returns-then-is_cut-clause-rest
returns-then-is_cut-clause-rest c =
    let xs = c.args.text.now in
    subst (λ l. IsLineText l) (sym (take_rest xs (c.loop-i.i + 1))) (rest_text (c.loop-i.i + 1) xs c.requires)

pub loop-i-preserved : goal.loop-i-preserved
loop-i-preserved c =
    words_more c.loop-i.quote_state c.args.text.now c.loop-i.i c.loop-i-test.true (pieces Bare c.args.text.now) c.loop-i.invariant c.next-quote_state.result (c.next-quote_state.ensures ∙ ap (next c.loop-i.quote_state) c.from.ensures) (sym c.is_cut.ensures ∙ c.if-is_cut.false)

pub returns-clause-words : goal.returns-clause-words
returns-clause-words c = words_end c.loop-i.quote_state c.args.text.now c.loop-i.i (pieces Bare c.args.text.now) c.loop-i-test.false c.loop-i.invariant
