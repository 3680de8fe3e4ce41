use Rattle.std.proofs.Common.{rules, tests, ◌≡◌, true, false, Some, sym, subst, ◌∙◌}
use Rattle.child_pipeline.specs.StageSlots.{IsNextJob}
use Rattle.std.specs.FinMap as finite
use Rattle.spool_types.specs.State.{job_at}
use Rattle.print_rounds.proofs.FreeLaws.{IsFreedTo, none_freed, stays, goes, all_freed, off_rests}
use Rattle.print_rounds.proofs.slots.free_idle.Goals as goal
use Rattle.print_rounds.proofs.slots.free_idle.Goals.{then-not-is_kept, else-not-is_kept}

pub loop-job-init : goal.loop-job-init
loop-job-init g c = none_freed c.args.table.now.state c.args.runner.now

pub loop-job-preserved : goal.loop-job-preserved
loop-job-preserved g c =
    let s = c.args.table.now.state in
    let old = c.args.runner.now in
    let now = c.loop-job.runner in
    let job = c.in-Some.job in
    let next : IsNextJob now c.loop-job.behind (Some job) = subst (IsNextJob now c.loop-job.behind) c.in-Some.is c.next_job.ensures in
    elim c.if-not-is_kept.branch [
      | then-not-is_kept w ↦
          let off : c.is_kept.result ≡ false = search (rules, tests, w.if-not-is_kept.true) in
          subst (IsFreedTo s old (Some job)) (sym (w.runner-is ∙ w.release.ensures)) (goes s old c.loop-job.behind now c.loop-job.invariant job next (sym c.is_kept.ensures ∙ off))
      | else-not-is_kept w ↦
          let on : c.is_kept.result ≡ true = search (rules, tests, w.if-not-is_kept.false) in
          subst (IsFreedTo s old (Some job)) (sym w.runner-is) (stays s old c.loop-job.behind now c.loop-job.invariant job next (sym c.is_kept.ensures ∙ on))
    ]

pub returns : goal.returns
returns g c =
    let s = c.args.table.now.state in
    all_freed s c.args.runner.now c.loop-job.behind c.loop-job.runner c.loop-job.invariant (subst (IsNextJob c.loop-job.runner c.loop-job.behind) c.in_default.is c.next_job.ensures)

pub release-requires : goal.release-requires
release-requires g c =
    let off : c.is_kept.result ≡ false = search (rules, tests, c.if-not-is_kept.true) in
    record { ticketless = off_rests (job_at c.args.table.now.state c.in-Some.job) (finite.get c.loop-job.runner c.in-Some.job) (sym c.is_kept.ensures ∙ off) }
