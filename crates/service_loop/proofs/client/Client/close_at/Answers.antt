-- One action: the refusal of a document of another size, or the close that the word means.
use Rattle.std.proofs.Common.{ap, codes, refl, sym, ◌∙◌}
use Rattle.service_texts.specs.Shown.{has_other_size}
use Rattle.service_texts.specs.declared.own_words.OwnWord.TheVariants as words
use Rattle.spool_engine.specs.AnswerTexts.{answer_text}
use Rattle.service_loop.specs.ClientActions.{closing_command}
use Rattle.service_loop.proofs.ClientStepLaws.{answered_by_applied, answered_by_word}
use Rattle.service_loop.proofs.client.Client.close_at.Goals as goal

pub returns-then-has_other_size-clause-done : goal.returns-then-has_other_size-clause-done
returns-then-has_other_size-clause-done g c =
    let other = ap (λ s. has_other_size s c.args.job c.args.size) (sym c.table.ensures) ∙ sym c.has_other_size.ensures ∙ c.if-has_other_size.true in
    let added = c.in_ok-add.ensures in
    answered_by_word _ _ _ _ _ (words.CloseAt c.args.job c.args.size c.args.name c.args.media) (codes "error size\n") c.requires.role (other, refl) added.added c.requires.waits (sym added.status)

pub returns-clause-done : goal.returns-clause-done
returns-clause-done g c =
    let equal = ap (λ s. has_other_size s c.args.job c.args.size) (sym c.table.ensures) ∙ sym c.has_other_size.ensures ∙ c.if-has_other_size.false in
    let e = c.args.shared.now.engine in
    let command = closing_command e.mime e.run_state.spool.state c.args.job c.args.name c.args.media in
    let (t, takes, answer, same, told) = c.in_ok-answer.ensures.executed in
    let kept = c.close.ensures.calls in
    let added = c.in_ok-add_answer.ensures in
    answered_by_applied _ _ _ _ _ _ (words.CloseAt c.args.job c.args.size c.args.name c.args.media) command t answer _ kept.mime kept.place c.requires.role (equal, refl) takes same
    (ap (λ s. answer_text s c.in_ok-answer.answer) c.table-2.ensures ∙ told) added.added added.status c.requires.waits
