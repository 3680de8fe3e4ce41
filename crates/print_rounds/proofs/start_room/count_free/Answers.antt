use Rattle.std.proofs.Common.{ℕ, ◌-◌, cond, Some, arith, sym, ap, subst, ◌∙◌}
use Rattle.child_pipeline.specs.StageSlots.{IsNextJob}
use Rattle.print_rounds.proofs.CountLaws.{free_all, free_first, free_next}
use Rattle.print_rounds.proofs.start_room.count_free.Goals.{then-has_child, else-has_child}
use Rattle.print_rounds.proofs.start_room.count_free.Goals as goal

pub loop-job-init : goal.loop-job-init
loop-job-init g c = free_first c.args.runner.now c.args.most

pub loop-job-preserved : goal.loop-job-preserved
loop-job-preserved g c =
    let slots = c.args.runner.now in
    let job = c.in-Some.job in
    let next : IsNextJob slots c.loop-job.behind (Some job) = subst (IsNextJob slots c.loop-job.behind) c.in-Some.is c.next_job.ensures in
    let on = free_next slots c.args.most c.loop-job.free c.loop-job.behind job next c.loop-job.invariant in
    elim c.if-has_child.branch [
      | then-has_child w ↦
          let one = ap {B = ℕ} (λ b. cond b 1 0) (sym c.has_child.ensures ∙ w.if-has_child.true) in
          let less = w.saturating_sub-free.ensures in
          let new = w.free-is in
          omega (arith, on, one, less, new)
      | else-has_child w ↦
          let none = ap {B = ℕ} (λ b. cond b 1 0) (sym c.has_child.ensures ∙ w.if-has_child.false) in
          let new = w.free-is in
          omega (arith, on, none, new)
    ]

pub returns : goal.returns
returns g c =
    let slots = c.args.runner.now in
    let all = free_all slots c.loop-job.behind (subst (IsNextJob slots c.loop-job.behind) c.in_default.is c.next_job.ensures) in
    c.loop-job.invariant ∙ ap (λ n. c.args.most - n) all
