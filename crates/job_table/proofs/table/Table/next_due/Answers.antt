-- The least of the dates is the least due moment.
use Rattle.std.proofs.Common.{◌<◌, None, cond, ap, subst, ◌∙◌}
use Rattle.spool_types.specs.State.{job_at}
use Rattle.queue_sched.specs.declared.deadlines.Deadline.{Deadline}
use Rattle.job_table.specs.Agendas.{hold_date, retry_date, AreDates}
use Rattle.job_table.specs.Contents.{Contents}
use Rattle.job_table.specs.DueTimes.{earlier, late_from, next_moment, IsLeastOf}
use Rattle.job_table.specs.Legal.{IsLegal}
use Rattle.job_table.specs.Timely.{IsTimely}
use Rattle.job_table.proofs.DueDates.{least_due}
use Rattle.job_table.proofs.table.Table.next_due.Goals as goal

pub returns : goal.returns
returns c =
    let a = c.self.inside in
    let s = c.args.self.now.state in
    let view = c.self.view_is in
    c.earlier-3.ensures
    ∙ (λ i. earlier (c.earlier.ensures i) (c.earlier-2.ensures i))
    ∙ (λ i. earlier (earlier (c.start_of-start.ensures i) (c.late_from-late.ensures i)) (earlier c.first_after-hold.result c.first_after-retry.result))
    ∙ ap (λ n. earlier (earlier (cond c.goes_on.result (next_moment n) None) (late_from c.first.result)) (earlier c.first_after-hold.result c.first_after-retry.result)) c.now-now.ensures
    ∙ least_due s a.timetable (subst (λ (v : Contents). IsTimely (job_at v.state) a.timetable) view c.self.invariant.timely)
    a.agenda.holds.items a.agenda.retries.items
    (subst (λ (v : Contents). AreDates hold_date (job_at v.state) a.agenda.holds.items) view c.self.invariant.agenda.holds)
    (subst (λ (v : Contents). AreDates retry_date (job_at v.state) a.agenda.retries.items) view c.self.invariant.agenda.retries)
    c.goes_on.result c.goes_on.ensures.none c.goes_on.ensures.some
    c.first.result c.first_after-hold.result c.first_after-retry.result c.first.ensures
    (subst (λ n. IsLeastOf (λ (d : Deadline). n < d.by) a.agenda.holds.items c.first_after-hold.result) c.now-now.ensures c.first_after-hold.ensures)
    (subst (λ n. IsLeastOf (λ (d : Deadline). n < d.by) a.agenda.retries.items c.first_after-retry.result) c.now-now.ensures c.first_after-retry.ensures)
    (subst (λ (v : Contents). IsLegal v.state) view c.self.invariant.legal)
