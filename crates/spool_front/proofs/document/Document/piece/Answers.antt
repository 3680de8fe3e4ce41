use Rattle.spool_front.proofs.Pieces.{piece_min}
use Rattle.spool_front.proofs.document.Document.piece.Goals as goal

pub returns : goal.returns
returns g c = rw (c.deref.ensures.value, c.min.ensures) (piece_min c.args.self.now.filled c.args.self.now.buffer.items c.args.self.now.room)
