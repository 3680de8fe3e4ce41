-- The timetable of all jobs.
use Rattle.std.proofs.Common.{ℕ, Option, sym, subst}
use Rattle.std.proofs.lemmas.Result.{IfOk-weaker}
use Rattle.queue_sched.specs.Deadlines.{HasEachDeadlineOnce}
use Rattle.spool_types.specs.State.{Job, job_at}
use Rattle.job_table.specs.Timely.{unsorted, IsTimely}
use Rattle.job_table.specs.declared.timetable.Timetable.{Timetable}
use Rattle.job_table.proofs.Gathered.{gathered, gathered_few, gathered_once}
use Rattle.job_table.proofs.table.build.timetable_of.Goals as goal

pub of_deadlines-requires-clause-once : goal.of_deadlines-requires-clause-once
of_deadlines-requires-clause-once c =
    subst HasEachDeadlineOnce (sym c.in_ok-deadlines.ensures) (gathered_once c.args.store.now.state c.jobs-rows.ensures.legal c.jobs-rows.result.now.items c.jobs-rows.ensures.rows)

pub of_deadlines-requires-clause-few : goal.of_deadlines-requires-clause-few
of_deadlines-requires-clause-few c =
    rw (c.timed_count.ensures, c.in_ok-deadlines.ensures) (gathered_few c.args.store.now.state c.jobs-rows.ensures.legal c.jobs-rows.result.now.items c.jobs-rows.ensures.rows)

pub returns : goal.returns
returns c =
    let s = c.args.store.now.state in
    let given : IsTimely (job_at s) (unsorted c.in_ok-deadlines.deadlines.items c.timed_count.result) =
    rw (c.timed_count.ensures, c.in_ok-deadlines.ensures) (gathered s c.jobs-rows.ensures.legal c.jobs-rows.result.now.items c.jobs-rows.ensures.rows) in
    IfOk-weaker c.of_deadlines.result
    (λ (t : Timetable). (jobs : ℕ → Option Job) → IsTimely jobs (unsorted c.in_ok-deadlines.deadlines.items c.timed_count.result) → IsTimely jobs t)
    (IsTimely (job_at s)) (λ t timely. timely (job_at s) given) c.of_deadlines.ensures
