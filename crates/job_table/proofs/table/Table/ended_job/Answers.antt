-- The list has the numbers of the ended jobs, in order.
use Rattle.std.proofs.Common.{sym, ap, ◌∙◌}
use Rattle.std.specs.Option.{option_map}
use Rattle.std.specs.List.{slice_get}
use Rattle.queue_sched.specs.declared.deadlines.Deadline.{Deadline}
use Rattle.job_table.specs.Contents.{Contents}
use Rattle.job_table.specs.DueTimes.{ended_numbers}
use Rattle.job_table.proofs.Dated.{ended_place}
use Rattle.job_table.proofs.table.Table.ended_job.Goals as goal

pub returns-in-Some : goal.returns-in-Some
returns-in-Some c =
    let a = c.self.inside in
    sym (ap (option_map (λ (d : Deadline). d.id)) c.in-Some.is)
    ∙ ended_place a.store.state c.self.invariant.legal a.agenda.ended.items c.get.ensures.order c.self.invariant.agenda.ended c.args.at c.get.result c.get.ensures.item
    ∙ ap (λ (v : Contents). slice_get (ended_numbers v.state) c.args.at) c.self.view_is

pub returns-in-None : goal.returns-in-None
returns-in-None c =
    let a = c.self.inside in
    sym (ap (option_map (λ (d : Deadline). d.id)) c.in-None.is)
    ∙ ended_place a.store.state c.self.invariant.legal a.agenda.ended.items c.get.ensures.order c.self.invariant.agenda.ended c.args.at c.get.result c.get.ensures.item
    ∙ ap (λ (v : Contents). slice_get (ended_numbers v.state) c.args.at) c.self.view_is
