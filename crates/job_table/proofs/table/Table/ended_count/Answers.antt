-- The list has the numbers of the ended jobs.
use Rattle.std.proofs.Common.{length, sym, ap, ◌∙◌}
use Rattle.std.proofs.lemmas.List.{length-map}
use Rattle.queue_sched.specs.declared.deadlines.Deadline.{Deadline}
use Rattle.job_table.specs.Contents.{Contents}
use Rattle.job_table.specs.DueTimes.{ended_numbers}
use Rattle.job_table.proofs.Dated.{ended_in_order}
use Rattle.job_table.proofs.table.Table.ended_count.Goals as goal

pub returns : goal.returns
returns c =
    let a = c.self.inside in
    c.len.ensures.count
    ∙ sym (length-map a.agenda.ended.items (λ (d : Deadline). d.id))
    ∙ ap length (ended_in_order a.store.state c.self.invariant.legal a.agenda.ended.items c.len.ensures.order c.self.invariant.agenda.ended)
    ∙ ap (λ (v : Contents). length (ended_numbers v.state)) c.self.view_is
