use Rattle.std.proofs.Common.{◌≡◌, true, false, ap, sym, subst}
use Rattle.spool_types.specs.Effects.{AreEffects}
use Rattle.child_pipeline.specs.Finishes.{heard}
use Rattle.child_pipeline.proofs.reports.stage_end.Goals as goal

-- The report fits into the effects of one stage.
pub unreachable-requires : goal.unreachable-requires
unreachable-requires c =
    let fit = subst AreEffects (ap (λ t. t.effects) (sym c.in_ok-effects.ensures)) (c.effects_fit.ensures (heard c.as_slice.result.now)) in
    let both : false ≡ true = c.in-Err.ensures.sound.1 fit in
    absurd (cc)
