-- A piece, and then the commands that are whole.
use Rattle.std.proofs.Common.{[]}
use Rattle.spool_engine.proofs.RunLaws.{fed, unfed}
use Rattle.spool_engine.proofs.printer.Printer.take_piece.Goals as goal

pub returns-in-Ok : goal.returns-in-Ok
returns-in-Ok g c =
    let (ts, h) = c.serve_whole.ensures.drains in
    record { settled = c.serve_whole.ensures.settled; drains = (ts, fed _ c.serve_whole.result _ _ c.args.commands.now c.feed.new.self _ c.args.piece.now ts _ _ c.in-Ok.ensures.ok h) }

pub returns-in-Err : goal.returns-in-Err
returns-in-Err g c = record { settled = c.requires.settled; drains = ([], unfed _ _ c.args.commands.now c.feed.new.self c.args.piece.now _) }
