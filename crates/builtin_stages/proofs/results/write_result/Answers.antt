use Rattle.std.proofs.Common.{take}
use Rattle.builtin_stages.proofs.ResultLaws.{kept_pieces, one_piece}
use Rattle.builtin_stages.proofs.results.write_result.Goals as goal
use Rattle.builtin_stages.proofs.results.write_result.Goals.{in-Ok+in_ok-count-in-Ok+in_ok-feeds-in-Ok, in-Err+else-ne}

pub pieces-preserved : goal.pieces-preserved
pieces-preserved g c =
    elim c.match-read.branch [
      | in-Ok+in_ok-count-in-Ok+in_ok-feeds-in-Ok w ↦
          rw (w.writer-is, w.feeds-is) (one_piece _ _ _ _ _ _ _ (take w.in-Ok.n c.read.new.buf) _ _ _ c.pieces.invariant w.in-Ok.ensures.bytes.0 w.in_ok-count-in-Ok.ensures.wrote w.in_ok-count-in-Ok.ensures.feeds w.in_ok-feeds-in-Ok.ensures.sum)
      | in-Err+else-ne w ↦ rw (w.writer-is, w.feeds-is) (kept_pieces _ _ _ _ _ _ _ c.pieces.invariant w.in-Err.ensures.bytes)
    ]
