use Rattle.std.proofs.Common.{length, sym, ap, ◌∙◌}
use Rattle.spool_front.proofs.Pieces.{ahead_none, ahead_one, front_set}
use Rattle.spool_front.proofs.document.keep_ahead.Goals as goal

pub returns-then-filled-le-PIECE-clause-count : goal.returns-then-filled-le-PIECE-clause-count
returns-then-filled-le-PIECE-clause-count c = sym (ap length (ahead_none c.args.filled c.args.buffer.now c.if-filled-le-PIECE.true))

pub returns-then-filled-le-PIECE-clause-bytes : goal.returns-then-filled-le-PIECE-clause-bytes
returns-then-filled-le-PIECE-clause-bytes c = sym (ahead_none c.args.filled c.args.buffer.now c.if-filled-le-PIECE.true)

pub returns-clause-count : goal.returns-clause-count
returns-clause-count c = sym (ap length (ahead_one c.args.filled c.args.buffer.now c.requires.room c.if-filled-le-PIECE.false))

pub returns-clause-bytes : goal.returns-clause-bytes
returns-clause-bytes c =
    front_set c.args.buffer.now _ c.requires.room ∙ sym (ahead_one c.args.filled c.args.buffer.now c.requires.room c.if-filled-le-PIECE.false)
