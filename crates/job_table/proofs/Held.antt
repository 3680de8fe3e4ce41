-- The invariant of a table, with its rows and its lanes.
use Rattle.std.proofs.Common.{◌≡◌, ℕ, ◌<◌, [], true, Option, None, Some, Result, Ok, refl, sym, ap, subst, ◌∙◌, arith}
use Rattle.std.specs.FinMap as finite
use Rattle.std.specs.Ordering.{nat_cmp}
use Rattle.std.specs.Cmp.Lexicographic.{slice_cmp}
use Rattle.std.proofs.lemmas.List.{length-map}
use Rattle.spool_types.specs.Phases.{has_ended}
use Rattle.spool_types.specs.State.{State, Job, nothing, job_at}
use Rattle.spool_types.specs.declared.event.NewJob.{NewJob}
use Rattle.spool_types.specs.declared.event.Event.{Event}
use Rattle.spool_types.specs.declared.event.Event.TheVariants.{Purge}
use Rattle.spool_types.specs.declared.event.Reply.{Reply}
use Rattle.spool_types.specs.declared.rows.QueueRow.{QueueRow}
use Rattle.job_table.specs.EventChanges.{new_job}
use Rattle.job_table.specs.Contents.{Contents, Room, HasRoom}
use Rattle.job_table.specs.Ended.{IsAbout, subject}
use Rattle.job_table.specs.TableInvariant.{IsInLanes}
use Rattle.job_table.specs.Lanes.{AreLanes}
use Rattle.job_table.specs.Legal.{IsLegal}
use Rattle.job_table.specs.RowChanges.{WritesRows, IsOfRows}
use Rattle.job_table.specs.Shapes.{Change, NewQueueRow, OfQueue, NewJobRow, OfJob, OfBoth, WithoutJob, OfClock, OfAll, subject_of, IsOfOne, made}
use Rattle.job_table.specs.Step.{change_by, creation, step, answered, refusal_of, after, reply_to}
use Rattle.job_table.specs.declared.table.Table.TheInside.{Inside}
use Rattle.job_table.proofs.Accepted.{accepted_create}
use Rattle.job_table.proofs.Changes.{without_own, without_other}
use Rattle.job_table.proofs.Moves.{Stays, stays_queue, put_other, put_own}
use Rattle.job_table.proofs.Redated.{agenda_as}
use Rattle.job_table.proofs.Seats.{Gains, Leaves, lanes_stay}
use Rattle.job_table.proofs.Steps.{after_creation}
use Rattle.job_table.proofs.Timely.{timely_as}

module _ {X Y : Type 0} where
  pub ok_same : (x z : X) (r : Result X Y) → r ≡ Ok x → r ≡ Ok z → x ≡ z
  ok_same x z r first second = cc

-- The step of an event that is not refused.
pub stepped : (s : State) (e : Event) (t : State) (r : Reply) → refusal_of s e ≡ None → step s e ≡ Ok (t, r) → (t ≡ after s e) × (r ≡ reply_to s e)
stepped s e t r none is =
    let both = ok_same (t, r) (after s e, reply_to s e) (step s e) is (ap (answered s e) none) in
    (ap (λ p. p.0) both, ap (λ p. p.1) both)

-- ## No jobs

-- No queues have no lanes.
pub no_lanes : (v : ℕ) → AreLanes nothing v []
no_lanes v = record {
  count = sym (length-map (finite.entries nothing.queues) (λ e. e.0) ∙ sym (finite.len-entries nothing.queues) ∙ finite.len-empty (slice_cmp nat_cmp) QueueRow);
  each = λ i k d lt. absurd (omega (arith, lt));
}

pub no_jobs : (j : ℕ) → job_at nothing j ≡ None
no_jobs j = finite.get-empty nat_cmp j

-- ## Unchanged jobs

-- If the rows of two tables agree on each job and on the moment, the lanes and the timetable of the one are those of
-- the other.
pub held_stays : (a : Inside) (store : Contents) → Stays a.store.state store.state → IsLegal store.state → IsInLanes a → IsInLanes (record a { store = store })
held_stays a store stays legal is = record {
  legal = legal;
  lanes = lanes_stay a.store.state store.state a.vacant a.lanes.items is.lanes stays;
  timely = timely_as (job_at a.store.state) (job_at store.state) a.timetable stays.jobs is.timely;
  spare = is.spare;
  agenda = agenda_as (job_at a.store.state) (job_at store.state) a.agenda stays.jobs is.agenda;
  vacancies = is.vacancies;
}

pub held_same : (a : Inside) (store : Contents) → store.state ≡ a.store.state → IsInLanes a → IsInLanes (record a { store = store })
held_same a store same is = held_stays a store
    (record {
      names = ap (λ (s : State). finite.keys s.queues) same;
      moment = ap (λ (s : State). s.moment) same;
      jobs = λ k. ap (λ (s : State). job_at s k) same;
    })
    (subst IsLegal (sym same) is.legal) is

-- A new moment changes no row.
pub legal_then : (s : State) (then : ℕ) → IsLegal s → IsLegal (record s { moment = then })
legal_then s then legal = record { few_queues = legal.few_queues; names = legal.names; in_order = legal.in_order; numbers = legal.numbers; jobs = legal.jobs; one_processing = legal.one_processing }

-- An event about an existing queue leaves the jobs unchanged.
stays_by : (s : State) (change : Change) → IsOfOne change → WritesRows change → subject_of change ≡ None → Stays s (made s change)
stays_by s (OfQueue name f) about writes none = stays_queue s name f
stays_by s (NewQueueRow q) about writes none = absurd about
stays_by s (NewJobRow r) about writes none = absurd about
stays_by s (WithoutJob j) about writes none = absurd writes
stays_by s (OfClock m) about writes none = absurd about
stays_by s OfAll about writes none = absurd about
stays_by s (OfJob j f) about writes none = absurd (cc)
stays_by s (OfBoth j effects verdict) about writes none = absurd (cc)

pub stays_about : (s : State) (e : Event) → IsAbout e → IsOfRows e → subject e ≡ None → Stays s (after s e)
stays_about s e about writes none = stays_by s (change_by e) about writes none

-- ## A new job

-- A new job did not exist before.
pub created : (s : State) → IsLegal s → (n : NewJob) (by : Option ℕ) → refusal_of s (creation n by) ≡ None → Gains s (after s (creation n by)) n.job (new_job n by)
created s legal n by accepted = subst (λ t. Gains s t n.job (new_job n by)) (sym (after_creation s n by)) (record {
  names = refl;
  moment = refl;
  others = λ k other. put_other s n.job (new_job n by) k other;
  absent = legal.numbers n.job (accepted_create s n by accepted);
  there = put_own s n.job (new_job n by);
})

-- There is room for it.
pub creation_room : (room : Room) (n : NewJob) (by : Option ℕ) → HasRoom room (creation n by) → 0 < room.jobs
creation_room room n None has = has
creation_room room n (Some by) has = has

-- ## A removed job

-- A purge removes a job that has ended.
pub purged : (s t : State) (j : ℕ) (r : Job) → job_at s j ≡ Some r → has_ended r.phase ≡ true → t ≡ after s (Purge j) → Leaves s t j r
purged s t j r there ended same = record {
  names = ap (λ (u : State). finite.keys u.queues) same;
  moment = ap (λ (u : State). u.moment) same;
  there = there;
  ended = ended;
  absent = ap (λ (u : State). job_at u j) same ∙ without_own s j;
  others = λ k other. ap (λ (u : State). job_at u k) same ∙ without_other s j k other;
}
