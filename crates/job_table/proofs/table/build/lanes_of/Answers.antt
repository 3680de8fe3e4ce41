-- One more lane.
use Rattle.std.proofs.Common.{sym, subst}
use Rattle.job_table.specs.LaneDrafts.{drafted}
use Rattle.job_table.specs.Lanes.{AreBeside, IsAdvanced}
use Rattle.job_table.proofs.Drafts.{beside_push}
use Rattle.job_table.proofs.table.build.lanes_of.Goals as goal

pub loop-draft-preserved : goal.loop-draft-preserved
loop-draft-preserved c =
    subst (AreBeside (λ d lane. IsAdvanced c.args.moment (drafted d) lane) _) (sym c.in_ok-push.ensures.items)
    (beside_push (λ d lane. IsAdvanced c.args.moment (drafted d) lane) c.loop-draft.yielded c.loop-draft.lanes.items c.in-Some.draft c.in_ok-into_lane.field-0 c.loop-draft.invariant c.in_ok-into_lane.ensures)
