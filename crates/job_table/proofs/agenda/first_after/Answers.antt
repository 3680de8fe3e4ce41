-- The dates before this position are not after the moment.
use Rattle.std.proofs.Common.{◌<◌, Some, sym, ◌∙◌, arith}
use Rattle.queue_sched.specs.declared.deadlines.Deadline.{Deadline}
use Rattle.job_table.proofs.DueDates.{least_from}
use Rattle.job_table.proofs.agenda.first_after.Goals as goal

pub returns : goal.returns
returns c =
    least_from (λ (d : Deadline). c.args.moment < d.by) c.args.list.now.items c.get.ensures.order c.count_until.result
    (λ k d low high after. (let before = c.count_until.ensures.before k d low high in omega (arith, before, after))) c.count_until.ensures.behind
    (Some c.in_ok-get.field-0) (sym c.in_ok-get.was ∙ c.get.ensures.item)
