-- A step, by the bytes that were written of its reply.
use Rattle.std.proofs.Common.{◌∙◌, ap, subst}
use Rattle.std.specs.Io.KnownBytes.{Appends}
use Rattle.whole_writes.specs.Writes.{WroteSome}
use Rattle.spool_engine.specs.AnswerTexts.{answer_text}
use Rattle.spool_engine.proofs.TurnLaws.{wrote_one, wrote_part, wrote_none}
use Rattle.engine_reserve.proofs.serving.answer.Goals as goal

pub returns-in-Ok-write_whole-clause-served : goal.returns-in-Ok-write_whole-clause-served
returns-in-Ok-write_whole-clause-served g c =
    let (t, takes, same) = c.execute-answer.ensures.executed in
    let W = g.W.Write.contents in
    let wrote = subst (Appends (W c.args.writer.now) (W c.write_whole.new.writer)) (c.deref.ensures.value ∙ c.in-Ok.ensures ∙ ap (λ s. answer_text s c.execute-answer.result) c.table.ensures ∙ same) c.in-Ok-write_whole.ensures.ok in
    (t, record { takes = takes; wrote = wrote_one _ _ t wrote })

pub returns-in-Ok-clause-served : goal.returns-in-Ok-clause-served
returns-in-Ok-clause-served g c =
    let (t, takes, same) = c.execute-answer.ensures.executed in
    let W = g.W.Write.contents in
    let wrote = subst (WroteSome (W c.args.writer.now) (W c.write_whole.new.writer)) (c.deref.ensures.value ∙ c.in-Ok.ensures ∙ ap (λ s. answer_text s c.execute-answer.result) c.table.ensures ∙ same) c.in-Err-write_whole.ensures.err in
    (t, record { takes = takes; wrote = wrote_part _ _ t wrote })

pub returns-clause-served : goal.returns-clause-served
returns-clause-served g c =
    let (t, takes, same) = c.execute-answer.ensures.executed in
    (t, record { takes = takes; wrote = wrote_none (g.W.Write.contents c.args.writer.now) t })
