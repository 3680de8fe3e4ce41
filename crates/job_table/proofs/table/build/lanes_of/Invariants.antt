-- The lanes so far are those of the visited drafts.
use Rattle.job_table.specs.LaneDrafts.{drafted}
use Rattle.job_table.specs.Lanes.{AreBeside, IsAdvanced}
use Rattle.job_table.proofs.table.build.lanes_of.Given as goal

abbrev pub invariant-loop-draft : goal.invariant-loop-draft
invariant-loop-draft l = AreBeside (λ d lane. IsAdvanced l.moment (drafted d) lane) l.yielded l.lanes.items
