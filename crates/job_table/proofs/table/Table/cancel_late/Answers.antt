-- One more late job is canceled. If no deadline has passed, no job is late.
use Rattle.std.proofs.Common.{◌≡◌, ℕ, ◌<◌, true, Some, refl, sym, ap, subst, ◌∙◌}
use Rattle.std.specs.List.{Contains}
use Rattle.spool_types.specs.declared.event.Event.TheVariants.{Cancel}
use Rattle.spool_types.specs.State.{State, Job, job_at}
use Rattle.queue_sched.specs.declared.deadlines.Deadline.{Deadline}
use Rattle.job_table.specs.EventChanges.{is_late}
use Rattle.job_table.specs.Contents.{Contents}
use Rattle.job_table.specs.TableInvariant.{table_of, IsInLanes}
use Rattle.job_table.specs.Legal.{IsLegal}
use Rattle.job_table.specs.Timely.{IsTimely}
use Rattle.job_table.specs.declared.table.Table.TheInside.{Inside}
use Rattle.job_table.proofs.Held.{stepped}
use Rattle.job_table.proofs.Late.{late_listed, none_listed, cancel_accepted, cancel_alive, cancel_less, cancel_others, cancel_rest}
use Rattle.job_table.proofs.Rooms.{no_more_then}
use Rattle.job_table.proofs.table.Table.cancel_late.Goals as goal

module _ (a : Inside) (v : Contents) (view : table_of a ≡ v) (is : IsInLanes a) where
  legal : IsLegal v.state
  legal = subst (λ (w : Contents). IsLegal w.state) view is.legal

  timely : IsTimely (job_at v.state) a.timetable
  timely = subst (λ (w : Contents). IsTimely (job_at w.state) a.timetable) view is.timely

  -- The job with the first deadline.
  late_first : (now j : ℕ) → (d : Deadline) × Contains a.timetable.deadlines.items d × (d.id ≡ j) × (d.by < now) → (r : Job) × (job_at v.state j ≡ Some r) × (is_late now r ≡ true)
  late_first now = late_listed now v.state a.timetable timely

pub loop-job-smaller : goal.loop-job-smaller
loop-job-smaller c =
    let s = c.loop-job.self.state in
    let late = late_first c.self.inside c.loop-job.self c.self.view_is c.self.invariant c.args.now c.in-Some.job c.in-Some.ensures.found in
    let before = legal c.self.inside c.loop-job.self c.self.view_is c.self.invariant in
    let accepted = cancel_accepted c.args.now s before c.in-Some.job late.0 late.1 late.2 in
    cancel_less c.args.now s before c.in-Some.job late.0 late.1 late.2 c.change_job.new.self.state (stepped s (Cancel c.in-Some.job) _ _ accepted c.change_job.ensures.step).0

pub loop-job-preserved : goal.loop-job-preserved
loop-job-preserved c =
    let s = c.loop-job.self.state in
    let t = c.change_job.new.self.state in
    let late = late_first c.self.inside c.loop-job.self c.self.view_is c.self.invariant c.args.now c.in-Some.job c.in-Some.ensures.found in
    let before = legal c.self.inside c.loop-job.self c.self.view_is c.self.invariant in
    let accepted = cancel_accepted c.args.now s before c.in-Some.job late.0 late.1 late.2 in
    let after_it = (stepped s (Cancel c.in-Some.job) t _ accepted c.change_job.ensures.step).0 in
    record {
      rest = cancel_rest c.args.now s before c.in-Some.job late.0 late.1 late.2 t after_it ∙ c.loop-job.invariant.rest;
      others =
          cancel_others c.args.now s before c.in-Some.job late.0 late.1 late.2 t after_it
          ∙ ap (λ (u : State). record u { jobs = t.jobs }) c.loop-job.invariant.others;
      places = λ j lives.
          c.change_job.ensures.places j lives
          ∙ c.loop-job.invariant.places j (cancel_alive c.args.now s before c.in-Some.job late.0 late.1 late.2 t after_it j lives);
      room = no_more_then c.args.self.now.room c.loop-job.self.room c.change_job.new.self.room c.loop-job.invariant.room c.change_job.ensures.room;
      moves = c.change_job.ensures.moves ∙ c.loop-job.invariant.moves;
    }

pub returns-clause-state : goal.returns-clause-state
returns-clause-state c =
    let s = c.loop-job.self.state in
    let none = none_listed c.args.now s c.self.inside.timetable (timely c.self.inside c.loop-job.self c.self.view_is c.self.invariant) (c.in_default.ensures.none refl) in
    c.loop-job.invariant.others
    ∙ ap (λ jobs. record c.args.self.now.state { jobs = jobs }) (sym none ∙ c.loop-job.invariant.rest)
