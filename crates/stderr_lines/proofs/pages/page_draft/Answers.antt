use Rattle.std.proofs.Common.{sym, ◌∙◌}
use Rattle.stderr_lines.proofs.PageLaws.{third_word, no_third_word}
use Rattle.stderr_lines.proofs.pages.page_draft.Goals as goal

pub returns-then-not-is_empty-clause-effect : goal.returns-then-not-is_empty-clause-effect
returns-then-not-is_empty-clause-effect c =
    third_word c.args.text.now c.first_word.result.1.now c.first_word-2.result.1.now c.after_blanks.result.now
    c.first_word.ensures.rest c.first_word-2.ensures.rest c.after_blanks.ensures.value (sym c.is_empty.ensures ∙ c.if-not-is_empty.true)

pub returns-clause-effect : goal.returns-clause-effect
returns-clause-effect c =
    c.two_words.ensures.effect
    ∙ no_third_word c.args.text.now c.first_word.result.1.now c.first_word-2.result.1.now c.after_blanks.result.now
    c.first_word.ensures.rest c.first_word-2.ensures.rest c.after_blanks.ensures.value
    c.first_word.result.0.now c.first_word-2.result.0.now c.first_word.ensures.word c.first_word-2.ensures.word (sym c.is_empty.ensures ∙ c.if-not-is_empty.false)
