use Rattle.ipp_sockets.proofs.Answering.{ends_append}
use Rattle.ipp_sockets.proofs.link.read_in.Goals as goal

pub loop-preserved : goal.loop-preserved
loop-preserved g c = ends_append _ _ _ _ _ _ c.loop.invariant c.read_piece.ensures
