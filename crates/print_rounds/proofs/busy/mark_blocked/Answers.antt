use Rattle.std.proofs.Common.{◌≡◌, true, false, Some, None, [], ◌∷◌, ◌++◌, length, replicate, set, arith, refl, sym, subst, ap, ◌∙◌}
use Rattle.std.specs.FinMap as finite
use Rattle.std.proofs.lemmas.Bool.{and_left, and_right}
use Rattle.spool_types.specs.State.{job_at}
use Rattle.child_pipeline.specs.StageSlots.{IsNextJob}
use Rattle.print_rounds.specs.StageChecks.{is_of_queue, runs}
use Rattle.print_rounds.specs.Passes.{unblocked}
use Rattle.print_rounds.proofs.BlockLaws.{first_flags, flags_free, flags_set, flags_stay, flags_to}
use Rattle.print_rounds.proofs.LookLaws.{all_jobs, jobs_to, next_jobs}
use Rattle.print_rounds.proofs.StartLaws.{queue_count}
use Rattle.print_rounds.proofs.busy.mark_blocked.Goals as goal
use Rattle.print_rounds.proofs.busy.mark_blocked.Goals.{then-has_child+in-Some-queue_position, then-has_child+in_default-queue_position, else-has_child}

pub loop-job-init : goal.loop-job-init
loop-job-init g c =
    let names = finite.keys c.args.table.now.state.queues in
    let count = queue_count c.queues-end.result.now names c.queues-end.ensures.names in
    let all : c.loop.counter ≡ length names = omega (arith, c.loop-test.false, c.loop.auto.counter-end, count) in
    c.loop.invariant.flags ∙ ap (λ n. replicate n false) all ∙ first_flags c.args.table.now.state c.args.runner.now names

pub loop-job-preserved : goal.loop-job-preserved
loop-job-preserved g c =
    let s = c.args.table.now.state in
    let slots = c.args.runner.now in
    let names = finite.keys s.queues in
    let js = jobs_to c.loop-job.behind (finite.keys slots) in
    let job = c.in-Some.job in
    let next : IsNextJob slots c.loop-job.behind (Some job) = subst (IsNextJob slots c.loop-job.behind) c.in-Some.is c.next_job.ensures in
    let further : flags_to s slots (js ++ job ∷ []) names ≡ flags_to s slots (jobs_to (Some job) (finite.keys slots)) names =
    ap (λ ks. flags_to s slots ks names) (sym (next_jobs slots c.loop-job.behind job next)) in
    elim c.if-has_child.branch [
      | then-has_child+in-Some-queue_position w ↦
          let (r, there, place) = w.in-Some-queue_position.ensures.place in
          ap (λ v. v.items) w.blocked-is
          ∙ ap (λ fs. set fs w.in-Some-queue_position.place true) c.loop-job.invariant
          ∙ flags_set s slots js job r names w.in-Some-queue_position.place (sym c.has_child.ensures ∙ w.if-has_child.true) there place
          ∙ further
      | then-has_child+in_default-queue_position w ↦
          let gone = w.in_default-queue_position.ensures.none refl in
          ap (λ v. v.items) w.blocked-is
          ∙ c.loop-job.invariant
          ∙ flags_stay s slots js job names (λ name. and_right (runs slots job) (is_of_queue name (job_at s job)) (ap (is_of_queue name) gone))
          ∙ further
      | else-has_child w ↦
          ap (λ v. v.items) w.blocked-is
          ∙ c.loop-job.invariant
          ∙ flags_stay s slots js job names (λ name. and_left (runs slots job) (is_of_queue name (job_at s job)) (sym c.has_child.ensures ∙ w.if-has_child.false))
          ∙ further
    ]

pub returns-clause-value : goal.returns-clause-value
returns-clause-value g c =
    let s = c.args.table.now.state in
    let slots = c.args.runner.now in
    let names = finite.keys s.queues in
    let none : IsNextJob slots c.loop-job.behind None = subst (IsNextJob slots c.loop-job.behind) c.in_default.is c.next_job.ensures in
    ap (λ fs. unblocked fs names) (c.loop-job.invariant ∙ ap (λ js. flags_to s slots js names) (all_jobs slots c.loop-job.behind none))
    ∙ flags_free s slots

pub returns-clause-flags : goal.returns-clause-flags
returns-clause-flags g c =
    let s = c.args.table.now.state in
    let slots = c.args.runner.now in
    let none : IsNextJob slots c.loop-job.behind None = subst (IsNextJob slots c.loop-job.behind) c.in_default.is c.next_job.ensures in
    c.loop-job.invariant ∙ ap (λ js. flags_to s slots js (finite.keys s.queues)) (all_jobs slots c.loop-job.behind none)
