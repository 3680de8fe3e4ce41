-- The effect of an event on the deadlines of a table's jobs.
use Rattle.std.proofs.Common.{◌≡◌, ℕ, inl, inr, Bool, true, false, cond, [], ◌∷◌, Option, Some, None, refl, sym, ap, ◌∙◌, arith}
use Rattle.std.specs.Prelude.{is_some}
use Rattle.std.specs.Option.{option_map}
use Rattle.std.proofs.lemmas.Bool.{cases_eq}
use Rattle.spool_types.specs.Phases.{has_ended, is_waiting}
use Rattle.spool_types.specs.declared.phase.Phase.{Phase}
use Rattle.spool_types.specs.declared.phase.Phase.TheVariants.{Incoming, Waiting, Processing, Completed, Canceled, Aborted}
use Rattle.spool_types.specs.State.{State, Job, job_at}
use Rattle.queue_sched.specs.declared.deadlines.Deadline.{Deadline}
use Rattle.job_table.specs.Legal.{IsLegal}
use Rattle.job_table.specs.Timely.{deadline_found, has_by, IsAdmitted, IsDismissed, IsRetimed, IsTimely, MayDismiss, MayRetime}
use Rattle.job_table.specs.declared.timetable.Timetable.{Timetable}
use Rattle.job_table.proofs.Moves.{Moves}
use Rattle.job_table.proofs.Seats.{Gains, Leaves}
use Rattle.job_table.proofs.Timely.{deadline_own}

-- Deadlines with the same moment and the same number are equal.
same_parts : (d e : Deadline) → d.by ≡ e.by → d.id ≡ e.id → d ≡ e
same_parts d e by id = λ i. record { by = by i; id = id i }

some_moment : (a b : ℕ) → Some a ≡ Some b → a ≡ b
some_moment a b is = cc

-- ## A job changes

module _ (s t : State) (legal : IsLegal t) (j : ℕ) (moves : Moves s t j) (r : Job) (there : job_at s j ≡ Some r) where
  abbrev moved : Job
  moved = (moves.own r there).0

  moved_there : job_at t j ≡ Some moved
  moved_there = (moves.own r there).1

  moved_by : moved.by ≡ r.by
  moved_by = (moves.own r there).2.by

  -- No other deadline changes, and each job must start by a moment as before.
  pub moved_retimed : IsRetimed (job_at s) (job_at t) j (deadline_found (job_at t j))
  moved_retimed = record {
    own = refl;
    others = λ k other. ap deadline_found (moves.others k other);
    timed = λ k. elim (cases_eq k j) [
      | inl own ↦
          ap (λ i. has_by (job_at t i)) own
          ∙ ap has_by moved_there
          ∙ ap is_some moved_by
          ∙ sym (ap has_by there)
          ∙ ap (λ i. has_by (job_at s i)) (sym own)
      | inr other ↦ ap has_by (moves.others k other)
    ];
  }

  deadline_after : (d : Deadline) → deadline_found (job_at t j) ≡ Some d → (moved.by ≡ Some d.by) × (j ≡ d.id)
  deadline_after d is =
      let own = deadline_own moved d (sym (ap deadline_found moved_there) ∙ is) in
      (own.1.0, sym (legal.jobs j moved moved_there).id ∙ own.1.1)

  -- The new deadline has the number of the job, and a deadline that remains does not change.
  pub moved_may : IsLegal s → (timetable : Timetable) → IsTimely (job_at s) timetable → MayRetime timetable j (deadline_found (job_at s j)) (deadline_found (job_at t j))
  moved_may was_legal timetable timely = record {
    jobs = job_at s;
    timely = timely;
    own = refl;
    number = λ d is. (sym (deadline_after d is).1, ap has_by there ∙ ap is_some (sym moved_by ∙ (deadline_after d is).0));
    same = λ d e before after.
        let was = deadline_own r d (sym (ap deadline_found there) ∙ before) in
        let now = deadline_after e after in
        same_parts d e (some_moment d.by e.by (sym was.1.0 ∙ sym moved_by ∙ now.0)) (sym was.1.1 ∙ (was_legal.jobs j r there).id ∙ now.1);
  }

-- ## A new job

pub gained_admitted : (s t : State) (j : ℕ) (q : Job) → Gains s t j q → is_waiting q.phase ≡ false → IsAdmitted (job_at s) (job_at t) j (is_some q.by)
gained_admitted s t j q gains idle = record {
  absent = gains.absent;
  own = ap deadline_found gains.there ∙ ap (λ b. cond b (option_map (λ by. record { by = by; id = q.id }) q.by) None) idle;
  by = ap has_by gains.there;
  others = gains.others;
}

-- ## A removed job

ended_waits : (p : Phase) → has_ended p ≡ true → is_waiting p ≡ false
ended_waits (Incoming hold) over = refl
ended_waits (Waiting hold not_before first) over = absurd (cc)
ended_waits (Processing attempt stage stages) over = refl
ended_waits Completed over = refl
ended_waits Canceled over = refl
ended_waits (Aborted reason) over = refl

pub left_dismissed : (s t : State) (j : ℕ) (r : Job) → Leaves s t j r → IsDismissed (job_at s) (job_at t) j (is_some r.by)
left_dismissed s t j r leaves = record {
  own =
      ap deadline_found leaves.there
      ∙ ap (λ b. cond b (option_map (λ by. record { by = by; id = r.id }) r.by) None) (ended_waits r.phase leaves.ended);
  by = ap has_by leaves.there;
  absent = leaves.absent;
  others = leaves.others;
}

-- A job that had to start by a moment was counted.
pub may_dismiss : (jobs : ℕ → Option Job) (t : Timetable) → IsTimely jobs t → (j : ℕ) (timed : Bool) → has_by (jobs j) ≡ timed → MayDismiss t timed
may_dismiss jobs t is j timed same = λ was. let one = is.few (j ∷ []) (tt, tt) (same ∙ was, tt) in omega (arith, one)
