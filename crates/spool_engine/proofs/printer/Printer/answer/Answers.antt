-- A step, by the bytes that were written of its reply.
use Rattle.std.proofs.Common.{◌∙◌, subst}
use Rattle.std.specs.Io.KnownBytes.{Appends}
use Rattle.whole_writes.specs.Writes.{WroteSome}
use Rattle.spool_engine.proofs.TurnLaws.{wrote_one, wrote_part, wrote_none}
use Rattle.spool_engine.proofs.printer.Printer.answer.Goals as goal

pub returns-in-Ok-write_whole : goal.returns-in-Ok-write_whole
returns-in-Ok-write_whole g c =
    let (t, takes, same) = c.execute-answer.ensures.executed in
    let W = g.W.Write.contents in
    let wrote = subst (Appends (W c.args.writer.now) (W c.write_whole.new.writer)) (c.deref.ensures.value ∙ c.in-Ok.ensures ∙ same) c.in-Ok-write_whole.ensures.ok in
    record { settled = c.execute-answer.ensures.settled; served = (t, record { legal = takes.legal; command = takes.command; next = takes.next; wrote = wrote_one _ _ t wrote }) }

pub returns-in-Ok : goal.returns-in-Ok
returns-in-Ok g c =
    let (t, takes, same) = c.execute-answer.ensures.executed in
    let W = g.W.Write.contents in
    let wrote = subst (WroteSome (W c.args.writer.now) (W c.write_whole.new.writer)) (c.deref.ensures.value ∙ c.in-Ok.ensures ∙ same) c.in-Err-write_whole.ensures.err in
    record { settled = c.execute-answer.ensures.settled; served = (t, record { legal = takes.legal; command = takes.command; next = takes.next; wrote = wrote_part _ _ t wrote }) }

pub returns : goal.returns
returns g c =
    let (t, takes, same) = c.execute-answer.ensures.executed in
    record { settled = c.execute-answer.ensures.settled; served = (t, record { legal = takes.legal; command = takes.command; next = takes.next; wrote = wrote_none (g.W.Write.contents c.args.writer.now) t }) }
