-- A lane's index is that of its queue's waiting jobs, so the choice of the lane is that of the queue.
use Rattle.std.proofs.Common.{◌≡◌, ℕ, Bool, true, false, not, ◌&&◌, List, Option, Some, None, IsTrue, refl, sym, ap, subst, ◌∙◌}
use Rattle.std.specs.List.{Contains}
use Rattle.std.specs.Cmp.Lexicographic.{bytes_decides}
use Rattle.std.specs.FinMap as finite
use Rattle.std.proofs.lemmas.Bool.{and_parts, and_from, false_from_ne_true}
use Rattle.std.proofs.lemmas.List.Folds.{list_any_at}
use Rattle.spool_types.specs.Busy.{is_of, is_busy}
use Rattle.spool_types.specs.Phases.{is_waiting}
use Rattle.spool_types.specs.State.{State, Job, job_at, queue_at}
use Rattle.spool_types.specs.declared.rows.QueueRow.{QueueRow}
use Rattle.queue_sched.specs.WaitingIndex.{Waits, entry_of, IsIndexOf, IsFirstStartable, NoneIsStartable}
use Rattle.queue_sched.specs.Next.{is_free, is_eligible, is_ready_of, IsNextJob}
use Rattle.queue_sched.specs.declared.entry.Entry.{Entry}
use Rattle.job_table.specs.Legal.{IsLegal}
use Rattle.job_table.specs.Lanes.{seat, IsLane}
use Rattle.job_table.specs.declared.lane.Lane.{Lane}
use Rattle.job_table.specs.declared.lane.LaneState.TheVariants.{Waiting}
use Rattle.job_table.proofs.Changes.{some_same, not_both}
use Rattle.job_table.proofs.Busy.{is_busy_of, lane_found, found_lane}
use Rattle.job_table.proofs.Choice.{value_there, there_value, passing}
use Rattle.job_table.proofs.Seats.{seat_here, seat_found, waiting_phase, waiting_state}

module _ (s : State) (legal : IsLegal s) (name : List ℕ) (lane : Lane) (is : IsLane (seat s name) lane) where
  abbrev jobs : List Job
  jobs = finite.values s.jobs

  pub index_of : IsIndexOf jobs name lane.index.items
  index_of = record {
    only = λ e there.
        let found = seat_found s name e.id (Waiting e) (is.waiting e there) refl in
        let waits = waiting_phase found.0 found.0.phase e found.3 in
        (found.0, value_there s e.id found.0 found.1, and_from (is_of name found.0) (is_waiting found.0.phase) ((bytes_decides found.0.queue name).1 found.2) waits.1, waits.0);
    each = λ r there waiting.
        let parts = and_parts (is_of name r) (is_waiting r.phase) waiting in
        let at = there_value s legal r there in
        (is.listed r.id (entry_of r) (seat_here s name r.id r at ((bytes_decides r.queue name).0 parts.0) ∙ waiting_state r r.phase parts.1)).1;
  }

  idle : lane.processing ≡ None → is_busy jobs name ≡ false
  idle none = false_from_ne_true _ (λ some.
      let own = passing (is_busy_of name) jobs some in
      not_both lane.processing own.0.id none (lane_found s legal name lane is own.0 own.1 own.2))

  busy : (k : ℕ) → lane.processing ≡ Some k → is_busy jobs name ≡ true
  busy k at =
      let own = found_lane s legal name lane is k at in
      list_any_at (is_busy_of name) jobs own.1.0 own.0 own.1.1 (ap (is_busy_of name) own.1.2 ∙ own.2)

  module _ (moment : lane.index.moment ≡ s.moment) (q : QueueRow) (there : queue_at s name ≡ Some q) (goes : q.stopped ≡ false) where
    free : lane.processing ≡ None → is_free jobs name q.stopped ≡ true
    free none = ap (λ b. not b && not (is_busy jobs name)) goes ∙ ap not (idle none)

    pub lane_chosen : ((name : List ℕ) (stopped : Bool) (w : Waits) (e : Entry) → IsIndexOf jobs name w.items → IsTrue (is_free jobs name stopped) → IsFirstStartable w e → (r : Job) × (r.id ≡ e.id) × IsNextJob jobs name stopped w.moment r)
        → (j : ℕ) → (lane.processing ≡ None) × ((e : Entry) × (e.id ≡ j) × IsFirstStartable lane.index e)
        → (r : Job) × (p : QueueRow) × (job_at s j ≡ Some r) × (queue_at s name ≡ Some p) × IsNextJob jobs name p.stopped s.moment r
    lane_chosen law j (none, (e, number, first)) =
        let chosen = law name q.stopped lane.index e index_of (free none) first in
        let r = chosen.0 in
        let next : IsNextJob jobs name q.stopped s.moment r = subst (λ m. IsNextJob jobs name q.stopped m r) moment chosen.2 in
        (r, q, subst (λ k. job_at s k ≡ Some r) (chosen.1 ∙ number) (there_value s legal r next.there), there, next)

    pub lane_none : ((name : List ℕ) (stopped : Bool) (w : Waits) → IsIndexOf jobs name w.items → NoneIsStartable w → (r : Job) → Contains jobs r → is_eligible jobs name stopped w.moment r ≡ false)
        → (lane.processing ≡ None → NoneIsStartable lane.index)
        → (p : QueueRow) → queue_at s name ≡ Some p → (j : ℕ) (r : Job) → job_at s j ≡ Some r → is_eligible jobs name p.stopped s.moment r ≡ false
    lane_none law none p at j r own = by_processing lane.processing refl
      where
        by_processing : (o : Option ℕ) → lane.processing ≡ o → is_eligible jobs name p.stopped s.moment r ≡ false
        by_processing None idle_now = subst (λ m. is_eligible jobs name p.stopped m r ≡ false) moment (law name p.stopped lane.index index_of (none idle_now) r (value_there s j r own))
        by_processing (Some k) busy_now = ap (λ b. (not p.stopped && not b) && is_ready_of name s.moment r) (busy k busy_now) ∙ never (not p.stopped)
          where
            never : (b : Bool) → ((b && false) && is_ready_of name s.moment r) ≡ false
            never true = refl
            never false = refl

-- No job of a stopped queue is eligible.
pub stopped_none : (s : State) (name : List ℕ) (q : QueueRow) → queue_at s name ≡ Some q → q.stopped ≡ true
    → (p : QueueRow) → queue_at s name ≡ Some p → (j : ℕ) (r : Job) → job_at s j ≡ Some r → is_eligible (finite.values s.jobs) name p.stopped s.moment r ≡ false
stopped_none s name q there stopped p at j r own =
    ap (λ b. (not b && not (is_busy (finite.values s.jobs) name)) && is_ready_of name s.moment r)
    (ap (λ (x : QueueRow). x.stopped) (some_same p q (sym at ∙ there)) ∙ stopped)
