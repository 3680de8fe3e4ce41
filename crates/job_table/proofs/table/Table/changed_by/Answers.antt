-- The dates that the clock reaches are those of the jobs that it changes.
use Rattle.std.proofs.Common.{◌≤◌, refl, subst}
use Rattle.spool_types.specs.Limits.{greatest_moment}
use Rattle.spool_types.specs.State.{job_at}
use Rattle.job_table.specs.Agendas.{hold_date, AreDates}
use Rattle.job_table.specs.Contents.{Contents}
use Rattle.job_table.specs.DueTimes.{IsChangedJob, IsNumberWithin}
use Rattle.job_table.specs.Timely.{IsTimely}
use Rattle.job_table.proofs.DueDates.{changed_jobs, listed_both}
use Rattle.job_table.proofs.table.Table.changed_by.Goals as goal

pub returns : goal.returns
returns c =
    let a = c.self.inside in
    let s = c.args.self.now.state in
    let view = c.self.view_is in
    let holds = a.agenda.holds.items in
    let deadlines = a.timetable.deadlines.items in
    listed_both c.new-jobs.result.items c.list.new.jobs.items c.list-2.new.jobs.items c.new-jobs.ensures.items
    (IsNumberWithin holds c.count_until-over.result c.count_until.result) (IsNumberWithin deadlines 0 c.count_before.result) (IsChangedJob s c.args.moment)
    c.in_ok-list.ensures c.in_ok-list-2.ensures
    (changed_jobs s c.now.result c.args.moment c.now.ensures holds deadlines a.timetable (subst (λ (v : Contents). IsTimely (job_at v.state) a.timetable) view c.self.invariant.timely) refl
    (subst (λ (v : Contents). AreDates hold_date (job_at v.state) holds) view c.self.invariant.agenda.holds)
    c.count_until-over.result c.count_until.result c.count_before.result
    c.count_until-over.ensures.in_range c.count_until-over.ensures.before c.count_until-over.ensures.behind
    c.count_until.ensures.in_range c.count_until.ensures.before c.count_until.ensures.behind
    c.count_before.ensures.in_range c.count_before.ensures.before c.count_before.ensures.behind
    (subst (λ n. n ≤ greatest_moment) c.get.ensures.value c.get.ensures.at_most))
