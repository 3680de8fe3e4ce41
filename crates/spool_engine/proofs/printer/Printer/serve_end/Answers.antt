-- One more step, or a fault after the steps so far.
use Rattle.std.proofs.Common.{[], ◌∷◌, ◌++◌, Ok, Err}
use Rattle.command_lines.specs.PendingCommands.{to_come}
use Rattle.spool_engine.proofs.TurnLaws.{ends_more, ends_stop}
use Rattle.spool_engine.proofs.printer.Printer.serve_end.Goals as goal

pub commands-preserved : goal.commands-preserved
commands-preserved g c =
    let (settled, ts, h) = c.commands.invariant in
    let (t, one) = c.in-Ok.ensures.served in
    let gives = rw c.in-Ok-Some.field-0-is at c.in-Ok-Some.ensures.ok in
    (c.in-Ok.ensures.settled, ts ++ t ∷ [], ends_more _ (Ok tt) _ _ _ _ _ _ ts t _ _ _ _ h gives one)

pub returns-in-Err-answer : goal.returns-in-Err-answer
returns-in-Err-answer g c =
    let (settled, ts, h) = c.commands.invariant in
    let (t, one) = c.in-Err-answer.ensures.served in
    let gives = rw c.in-Ok-Some.field-0-is at c.in-Ok-Some.ensures.ok in
    record { settled = c.in-Err-answer.ensures.settled; ends = (ts ++ t ∷ [], to_come c.finish.new.self [], ends_more _ (Err c.in-Err-answer.fault) _ _ _ _ _ _ ts t _ _ _ _ h gives one, tt) }

pub returns-in-Err : goal.returns-in-Err
returns-in-Err g c =
    let (settled, ts, h) = c.commands.invariant in
    record { settled = settled; ends = (ts, to_come c.finish.new.self [], ends_stop _ _ _ _ ts _ _ _ _ h c.in-Err.ensures.err, tt) }
