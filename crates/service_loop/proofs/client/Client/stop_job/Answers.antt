-- One action: the cancel that the word means.
use Rattle.std.proofs.Common.{ap, refl}
use Rattle.service_texts.specs.declared.own_words.OwnWord.TheVariants as words
use Rattle.spool_engine.specs.AnswerTexts.{answer_text}
use Rattle.service_loop.proofs.ClientStepLaws.{answered_by_applied}
use Rattle.service_loop.proofs.client.Client.stop_job.Goals as goal

pub returns-clause-done : goal.returns-clause-done
returns-clause-done g c =
    let (t, takes, same) = c.in_ok-answer.ensures.executed in
    let kept = c.stop.ensures.calls in
    let added = c.in_ok-add_answer.ensures in
    answered_by_applied _ _ _ _ _ _ (words.Stop c.args.job) _ t c.in_ok-answer.answer _ kept.mime kept.place c.requires.role refl takes same
    (ap (λ s. answer_text s c.in_ok-answer.answer) c.table.ensures) added.added added.status c.requires.waits
