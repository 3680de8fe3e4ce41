use Rattle.std.proofs.Common.{sym, ◌∙◌, Ok, Err}
use Rattle.side_channel.proofs.SessionLaws.{begun, answered, end-session, end-answered, stopped-session, stopped-answered, fault-session, fault-answered, write-session, write-answered, whole_read, nothing_read, answer_written}
use Rattle.side_channel.proofs.sessions.serve.Goals as goal

pub packets-init : goal.packets-init
packets-init g c = begun _ _ _

pub returns-then-is_end-clause-session : goal.returns-then-is_end-clause-session
returns-then-is_end-clause-session g c =
    end-session _ _ _ _ _ _ _ c.packets.invariant (whole_read _ _ _ _ c.in-Ok-Some.field-0-is c.in-Ok-Some.ensures.packet) (sym c.is_end.ensures ∙ c.if-is_end.true)

pub returns-then-is_end-clause-answered : goal.returns-then-is_end-clause-answered
returns-then-is_end-clause-answered g c =
    end-answered _ _ _ _ _ _ _ c.packets.invariant (whole_read _ _ _ _ c.in-Ok-Some.field-0-is c.in-Ok-Some.ensures.packet) (sym c.is_end.ensures ∙ c.if-is_end.true)

pub returns-in-Err-write-clause-session : goal.returns-in-Err-write-clause-session
returns-in-Err-write-clause-session g c =
    write-session _ _ _ _ _ _ _ _ c.in-Err-write.fault c.packets.invariant (whole_read _ _ _ _ c.in-Ok-Some.field-0-is c.in-Ok-Some.ensures.packet) (sym c.is_end.ensures ∙ c.if-is_end.false)
    (answer_written _ _ _ _ (Err c.in-Err-write.fault) c.answer.ensures c.in-Err-write.ensures)

pub returns-in-Err-write-clause-answered : goal.returns-in-Err-write-clause-answered
returns-in-Err-write-clause-answered g c =
    write-answered _ _ _ _ _ _ _ _ c.in-Err-write.fault c.packets.invariant (whole_read _ _ _ _ c.in-Ok-Some.field-0-is c.in-Ok-Some.ensures.packet) (sym c.is_end.ensures ∙ c.if-is_end.false)
    (answer_written _ _ _ _ (Err c.in-Err-write.fault) c.answer.ensures c.in-Err-write.ensures)

pub packets-preserved : goal.packets-preserved
packets-preserved g c =
    answered _ _ _ _ _ _ _ _ c.packets.invariant (whole_read _ _ _ _ c.in-Ok-Some.field-0-is c.in-Ok-Some.ensures.packet) (sym c.is_end.ensures ∙ c.if-is_end.false)
    (answer_written _ _ _ _ (Ok c.in-Ok.field-0) c.answer.ensures c.in-Ok.ensures)

pub returns-in-Ok-None-clause-session : goal.returns-in-Ok-None-clause-session
returns-in-Ok-None-clause-session g c = stopped-session _ _ _ _ _ _ c.packets.invariant (nothing_read _ _ _ c.in-Ok-None.field-0-is c.in-Ok-None.ensures.packet)

pub returns-in-Ok-None-clause-answered : goal.returns-in-Ok-None-clause-answered
returns-in-Ok-None-clause-answered g c = stopped-answered _ _ _ _ _ _ c.packets.invariant (nothing_read _ _ _ c.in-Ok-None.field-0-is c.in-Ok-None.ensures.packet)

pub returns-in-Err-clause-session : goal.returns-in-Err-clause-session
returns-in-Err-clause-session g c = fault-session _ _ _ _ _ _ c.in-Err.fault c.packets.invariant c.in-Err.ensures.packet

pub returns-in-Err-clause-answered : goal.returns-in-Err-clause-answered
returns-in-Err-clause-answered g c = fault-answered _ _ _ _ _ _ c.in-Err.fault c.packets.invariant c.in-Err.ensures.packet
