use Rattle.std.proofs.Common.{[], subst}
use Rattle.side_channel.specs.SessionPieces.{Feeds}
use Rattle.side_channel.proofs.PieceLaws.{answers, finishes, wants}
use Rattle.side_channel.proofs.pieces.Session.feed.Goals as goal
use Rattle.side_channel.proofs.pieces.Session.feed.Goals.{in-Part, in-Request, in-End}

pub returns : goal.returns
returns c =
    let d = c.args.device.now in
    let r = c.reach-reached.ensures in
    subst (λ h. Feeds d h c.args.piece.now c.match-reached.result c.reach-reached.result.held) c.self.view_is
    (elim c.match-reached.branch [
      | in-Part w ↦ rw w.result-is (wants _ _ _ _ (rw w.in-Part.is at r) d)
      | in-Request w ↦ rw w.result-is (answers _ _ _ _ _ _ (rw w.in-Request.is at r) d _ (w.answer_to.ensures 0 []))
      | in-End w ↦ rw w.result-is (finishes _ _ _ _ (rw w.in-End.is at r) d)
    ])
