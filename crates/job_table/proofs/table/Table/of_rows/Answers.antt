-- Each queue has its lane, and each deadline is in the timetable.
use Rattle.std.proofs.Common.{subst, arith}
use Rattle.job_table.specs.Lanes.{AreBeside, IsAdvanced}
use Rattle.job_table.specs.LaneDrafts.{drafted}
use Rattle.job_table.proofs.Drafts.{lanes_become, waiting_once}
use Rattle.job_table.proofs.table.Table.of_rows.Goals as goal

pub lanes_of-requires : goal.lanes_of-requires
lanes_of-requires c = waiting_once c.args.store.state c.in_ok-drafts.drafts.items c.in_ok-drafts.ensures.drafts

pub invariant_of-result : goal.invariant_of-result
invariant_of-result c = record {
  legal = c.in_ok-drafts.ensures.legal;
  lanes = lanes_become c.args.store.state c.in_ok-drafts.drafts.items c.in_ok-lanes.lanes.items c.in_ok-drafts.ensures.drafts
      (subst (λ m. AreBeside (λ d lane. IsAdvanced m (drafted d) lane) c.in_ok-drafts.drafts.items c.in_ok-lanes.lanes.items) c.now.ensures c.in_ok-lanes.ensures);
  timely = c.in_ok-timetable.ensures;
  spare = omega (arith, c.in_ok-timetable.ensures.room);
  agenda = c.in_ok-agenda.ensures;
  vacancies = omega (arith, c.in_ok-agenda.ensures.fits);
}
