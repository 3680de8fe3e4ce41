-- A piece, and then the commands that are whole.
use Rattle.std.proofs.Common.{[]}
use Rattle.engine_reserve.proofs.ServingLaws.{fed, unfed}
use Rattle.engine_reserve.proofs.serving.take_piece.Goals as goal

pub returns-in-Ok-clause-served : goal.returns-in-Ok-clause-served
returns-in-Ok-clause-served g c =
    let (ts, h) = c.serve_whole.ensures.served in
    (ts, fed _ _ c.serve_whole.result _ _ c.args.commands.now c.feed.new.self _ c.args.piece.now ts _ _ c.in-Ok.ensures.ok h)

pub returns-in-Err-clause-served : goal.returns-in-Err-clause-served
returns-in-Err-clause-served g c = ([], unfed _ _ _ c.args.commands.now c.feed.new.self c.args.piece.now _)
