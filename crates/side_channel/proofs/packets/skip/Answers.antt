use Rattle.std.proofs.Common.{◌≤◌, rules, arith}
use Rattle.std.proofs.lemmas.Result.{err_from_is_err_and}
use Rattle.side_channel.proofs.PacketLaws.{skips_more, fails_later}
use Rattle.side_channel.proofs.packets.skip.Goals as goal

pub returns-in_err-skip_piece-clause-err : goal.returns-in_err-skip_piece-clause-err
returns-in_err-skip_piece-clause-err g c =
    let p = err_from_is_err_and c.from_residual.result c.from_residual.ensures.1 in
    let le : c.min-wanted.result ≤ c.pieces.left = omega (arith, c.min-wanted.ensures) in
    rw (p.1, p.2) (fails_later _ _ _ _ _ _ _ c.pieces.invariant.within le c.pieces.invariant.skipped c.in_err-skip_piece.ensures.err c.in_err-skip_piece.ensures.memory)

pub pieces-preserved : goal.pieces-preserved
pieces-preserved g c =
    let le : c.min-wanted.result ≤ c.pieces.left = omega (arith, c.min-wanted.ensures) in
    record {
      within = omega (arith, c.pieces.invariant.within);
      skipped = skips_more _ _ _ _ _ _ c.pieces.invariant.within le c.pieces.invariant.skipped c.in_ok-skip_piece.ensures.ok;
      reads = search rules;
    }
