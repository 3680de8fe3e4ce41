-- One more draft.
use Rattle.std.proofs.Common.{◌+◌, [], ◌∷◌, length, sym, ap, subst, ◌∙◌}
use Rattle.std.proofs.lemmas.List.{length-append}
use Rattle.std.proofs.lemmas.List.Elements.{All-push}
use Rattle.std.specs.List.{All}
use Rattle.job_table.specs.LaneDrafts.{IsBlank}
use Rattle.job_table.proofs.table.build.empty_drafts.Goals as goal

pub loop-preserved : goal.loop-preserved
loop-preserved c = (
  ap length c.in_ok-push.ensures.items ∙ length-append c.loop.drafts.items (c.new.result ∷ []) ∙ ap (λ n. n + 1) c.loop.invariant.0,
  subst (All IsBlank) (sym c.in_ok-push.ensures.items) (All-push IsBlank c.loop.drafts.items c.new.result c.loop.invariant.1 c.new.ensures),
)
