use Rattle.std.proofs.Common.{sym, ◌∙◌}
use Rattle.spool_front.proofs.Behind.{answered_behind, moved, read_behind}
use Rattle.spool_front.proofs.submit.Submitting.submit.Goals.{in-Read, in_default-request}
use Rattle.spool_front.proofs.submit.Submitting.submit.Goals as goal

pub loop-preserved : goal.loop-preserved
loop-preserved g c =
    elim c.match-request.branch [
      | in-Read w ↦
          moved g.S.Read.remaining _ w.read_piece-step.result _ w.read_piece-step.new.document w.step-is w.document-is
          (read_behind _ c.loop.step w.read_piece-step.result w.in-Read.size _ _ _ (sym c.request.ensures ∙ w.in-Read.is)
          w.read_piece-step.ensures.step w.read_piece-step.ensures.short w.read_piece-step.ensures.end)
      | in_default-request w ↦
          moved g.S.Read.remaining _ w.request-step.result _ _ w.step-is w.document-is
          (λ h. c.loop.invariant (answered_behind c.loop.step w.request-step.result w.request-step.ensures h))
    ]
