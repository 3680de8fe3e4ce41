-- No date is before the first one.
use Rattle.std.proofs.Common.{◌≤◌, Some, sym, ◌∙◌, arith}
use Rattle.queue_sched.specs.declared.deadlines.Deadline.{Deadline}
use Rattle.job_table.proofs.DueDates.{least_from}
use Rattle.job_table.proofs.agenda.first.Goals as goal

pub returns : goal.returns
returns c =
    least_from (λ (d : Deadline). 0 ≤ d.by) c.args.list.now.items c.get.ensures.order 0 (λ k d low high. absurd (omega (arith, high))) (λ k d low high. omega arith)
    (Some c.in_ok-get.field-0) (sym c.in_ok-get.was ∙ c.get.ensures.item)
