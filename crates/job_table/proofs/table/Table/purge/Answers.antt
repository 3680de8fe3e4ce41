-- The job was in no lane and had no deadline. Its dates are removed.
use Rattle.std.proofs.Common.{◌≡◌, None, sym, ap, subst, ◌∙◌, arith}
use Rattle.std.proofs.lemmas.Bool.{both_ways}
use Rattle.spool_types.specs.declared.event.Event.TheVariants.{Purge}
use Rattle.spool_types.specs.State.{job_at}
use Rattle.job_table.specs.Agendas.{dates_found}
use Rattle.job_table.specs.Contents.{Contents}
use Rattle.job_table.specs.Legal.{IsLegal}
use Rattle.job_table.specs.Step.{refusal_of}
use Rattle.job_table.specs.Timely.{has_by, IsDismissed}
use Rattle.job_table.specs.declared.agenda.Dates.{Dates}
use Rattle.job_table.proofs.Gathered.{one_if}
use Rattle.job_table.proofs.Held.{purged}
use Rattle.job_table.proofs.Legal.{legal_after}
use Rattle.job_table.proofs.Retimed.{left_dismissed, may_dismiss}
use Rattle.job_table.proofs.Seats.{lanes_left}
use Rattle.job_table.proofs.Timely.{no_more_timed}
use Rattle.job_table.proofs.table.Table.purge.Goals as goal

pub dismiss-requires : goal.dismiss-requires
dismiss-requires c =
    may_dismiss (job_at c.self.inside.store.state) c.self.inside.timetable c.self.invariant.timely c.args.job c.is_timed-timed.result
    (ap has_by c.purge-row.ensures.row ∙ sym c.is_timed-timed.ensures)

pub redate-requires : goal.redate-requires
redate-requires c = record {
  jobs = job_at c.self.inside.store.state;
  agenda = c.self.invariant.agenda;
  own = ap dates_found c.purge-row.ensures.row ∙ sym c.of_job-dates.ensures;
  next = None;
  later = sym c.none.ensures;
  number = λ r never. absurd (cc);
  room = λ absent. absurd (both_ways c.of_job-dates.result.exists absent (ap (λ (d : Dates). d.exists) c.of_job-dates.ensures));
}

pub invariant_of-self : goal.invariant_of-self
invariant_of-self c =
    let s = c.self.inside.store.state in
    let t = c.purge-row.new.self.state in
    let accepted : refusal_of s (Purge c.args.job) ≡ None = ap (λ (v : Contents). refusal_of v.state (Purge c.args.job)) c.self.view_is ∙ c.requires.accepted in
    let leaves = purged s t c.args.job c.purge-row.result.job c.purge-row.ensures.row c.purge-row.ensures.ended c.purge-row.ensures.state in
    record {
      legal = subst IsLegal (sym c.purge-row.ensures.state) (legal_after s (Purge c.args.job) tt accepted c.self.invariant.legal);
      lanes = lanes_left s t c.self.inside.vacant c.self.inside.lanes.items c.self.invariant.lanes c.args.job c.purge-row.result.job leaves;
      timely = c.dismiss.ensures.timely (job_at s) (job_at t) c.args.job c.self.invariant.timely
          (subst (IsDismissed (job_at s) (job_at t) c.args.job) (sym c.is_timed-timed.ensures) (left_dismissed s t c.args.job c.purge-row.result.job leaves));
      spare = (let fewer = no_more_timed c.is_timed-timed.result _ _ c.dismiss.ensures.timed in omega (arith, c.self.invariant.timely.room, fewer, c.dismiss.ensures.room));
      agenda = c.redate.ensures.agenda (job_at s) (job_at t) c.self.invariant.agenda (ap dates_found c.purge-row.ensures.row ∙ sym c.of_job-dates.ensures)
          (record { own = ap dates_found leaves.absent ∙ sym c.none.ensures; others = leaves.others });
      vacancies = omega (arith, c.self.invariant.agenda.fits, c.redate.ensures.jobs, c.redate.ensures.room, ap (λ (d : Dates). one_if d.exists) c.none.ensures);
    }
