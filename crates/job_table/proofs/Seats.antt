-- The lane states of jobs, and the lanes after a change.
use Rattle.std.proofs.Common.{◌≡◌, ℕ, zero, suc, ◌+◌, ◌<◌, ◌≤◌, ◌⊎◌, inl, inr, Bool, true, false, cond, List, [], length, get_or, set, Option, Some, None, IsSome, refl, sym, ap, subst, ◌∙◌, arith}
use Rattle.std.specs.List.{insert}
use Rattle.std.specs.Cmp.Lexicographic.{bytes_decides}
use Rattle.std.specs.FinMap as finite
use Rattle.std.proofs.lemmas.Bool.{cases_eq, cases_lt}
use Rattle.std.proofs.lemmas.List.{get_or_default, length-set, get_or-set_same, get_or-set_other}
use Rattle.std.proofs.lemmas.List.Edits.{get_or-insert_at, get_or-insert_below, get_or-insert_above, length-insert}
use Rattle.spool_types.specs.Busy.{is_of}
use Rattle.spool_types.specs.Phases.{has_ended, is_processing, is_waiting}
use Rattle.spool_types.specs.State.{State, Job, job_at, queue_at}
use Rattle.spool_types.specs.declared.effect.Effect.{Effect}
use Rattle.spool_types.specs.declared.event.Event.{Event}
use Rattle.spool_types.specs.declared.refusal.Refusal.TheVariants.{JobEnded}
use Rattle.spool_types.specs.declared.phase.Phase.{Phase}
use Rattle.spool_types.specs.declared.phase.Phase.TheVariants as phases
use Rattle.queue_sched.specs.WaitingIndex.{entry_of}
use Rattle.queue_sched.specs.declared.entry.Entry.{Entry}
use Rattle.job_table.specs.Ended.{subject}
use Rattle.job_table.specs.Legal.{IsLegal}
use Rattle.job_table.specs.Shapes.{Change, NewQueueRow, OfQueue, NewJobRow, OfJob, OfBoth, WithoutJob, OfClock, OfAll, subject_of, causes_of}
use Rattle.job_table.specs.Step.{row, change_by, first_cause, refusal_of, after}
use Rattle.job_table.specs.Lanes.{lane_state_in, lane_state_of, seat_of, seat, is_live, live_count, IsLane, IsReseated, IsSameLane, IsAdvanced, HasSeat, AreBeside, IsLaneOf, AreLanes}
use Rattle.job_table.specs.QueuePositions.{IsNameAt}
use Rattle.job_table.specs.declared.lane.Lane.{Lane}
use Rattle.job_table.specs.declared.lane.LaneState.{LaneState}
use Rattle.job_table.specs.declared.lane.LaneState.TheVariants.{Ended, Waiting, Processing}
use Rattle.spool_types.specs.declared.refusal.Refusal.{Refusal}
use Rattle.job_table.proofs.Accepted.{job_found}
use Rattle.job_table.proofs.Changes.{some_same}
use Rattle.job_table.proofs.Ended.{number_of, refused_and_not, refused_as_ended}
use Rattle.job_table.proofs.Lanes.{no_more}
use Rattle.job_table.proofs.Legal.{KeepsOrder, keeps_each, legal_after}
use Rattle.job_table.proofs.Moves.{Moves, Stays, moves}
use Rattle.job_table.proofs.Tables.{needed_and_not}

-- ## The lane state and the phase

pub waiting_phase : (r : Job) (p : Phase) (e : Entry) → lane_state_in r p ≡ Waiting e → (e ≡ entry_of r) × (is_waiting p ≡ true)
waiting_phase r (phases.Incoming hold) e is = absurd (cc)
waiting_phase r (phases.Waiting hold not_before first) e is = (cc, refl)
waiting_phase r (phases.Processing attempt stage stages) e is = absurd (cc)
waiting_phase r phases.Completed e is = absurd (cc)
waiting_phase r phases.Canceled e is = absurd (cc)
waiting_phase r (phases.Aborted reason) e is = absurd (cc)

pub waiting_state : (r : Job) (p : Phase) → is_waiting p ≡ true → lane_state_in r p ≡ Waiting (entry_of r)
waiting_state r (phases.Incoming hold) is = absurd (cc)
waiting_state r (phases.Waiting hold not_before first) is = refl
waiting_state r (phases.Processing attempt stage stages) is = absurd (cc)
waiting_state r phases.Completed is = absurd (cc)
waiting_state r phases.Canceled is = absurd (cc)
waiting_state r (phases.Aborted reason) is = absurd (cc)

pub processing_phase : (r : Job) (p : Phase) → lane_state_in r p ≡ Processing → is_processing p ≡ true
processing_phase r (phases.Incoming hold) is = absurd (cc)
processing_phase r (phases.Waiting hold not_before first) is = absurd (cc)
processing_phase r (phases.Processing attempt stage stages) is = refl
processing_phase r phases.Completed is = absurd (cc)
processing_phase r phases.Canceled is = absurd (cc)
processing_phase r (phases.Aborted reason) is = absurd (cc)

pub processing_state : (r : Job) (p : Phase) → is_processing p ≡ true → lane_state_in r p ≡ Processing
processing_state r (phases.Incoming hold) is = absurd (cc)
processing_state r (phases.Waiting hold not_before first) is = absurd (cc)
processing_state r (phases.Processing attempt stage stages) is = refl
processing_state r phases.Completed is = absurd (cc)
processing_state r phases.Canceled is = absurd (cc)
processing_state r (phases.Aborted reason) is = absurd (cc)

pub dead_phase : (r : Job) (p : Phase) → is_live (lane_state_in r p) ≡ false → has_ended p ≡ true
dead_phase r (phases.Incoming hold) is = absurd (cc)
dead_phase r (phases.Waiting hold not_before first) is = absurd (cc)
dead_phase r (phases.Processing attempt stage stages) is = absurd (cc)
dead_phase r phases.Completed is = refl
dead_phase r phases.Canceled is = refl
dead_phase r (phases.Aborted reason) is = refl

-- ## The lane state of a job

of_own : (name : List ℕ) (r : Job) → r.queue ≡ name → is_of name r ≡ true
of_own name r own = (bytes_decides r.queue name).1 own

own_of : (name : List ℕ) (r : Job) → is_of name r ≡ true → r.queue ≡ name
own_of name r is = (bytes_decides r.queue name).0 is

module _ (s : State) (name : List ℕ) (j : ℕ) where
  pub seat_here : (r : Job) → job_at s j ≡ Some r → r.queue ≡ name → seat s name j ≡ lane_state_of r
  seat_here r there own = ap (seat_of name) there ∙ ap (λ b. cond b (lane_state_of r) Ended) (of_own name r own)

  pub seat_else : (r : Job) → job_at s j ≡ Some r → (r.queue ≡ name → ⊥) → seat s name j ≡ Ended
  seat_else r there other = ap (seat_of name) there ∙ either (is_of name r) refl
    where
      either : (b : Bool) → is_of name r ≡ b → cond b (lane_state_of r) Ended ≡ Ended
      either true is = absurd (other (own_of name r is))
      either false is = refl

  pub seat_absent : job_at s j ≡ None → seat s name j ≡ Ended
  seat_absent absent = ap (seat_of name) absent

  ended_dead : (x : LaneState) → Ended ≡ x → is_live x ≡ true → ⊥
  ended_dead x is live = (let no : false ≡ true = ap is_live is ∙ live in absurd (cc))

  -- A job that is in the queue's lane and has not ended belongs to the queue.
  pub seat_found : (x : LaneState) → seat s name j ≡ x → is_live x ≡ true → (r : Job) × (job_at s j ≡ Some r) × (r.queue ≡ name) × (lane_state_of r ≡ x)
  seat_found x is live = by_job (job_at s j) refl
    where
      by_own : (r : Job) → job_at s j ≡ Some r → (b : Bool) → is_of name r ≡ b → (r : Job) × (job_at s j ≡ Some r) × (r.queue ≡ name) × (lane_state_of r ≡ x)
      by_own r at true own = (r, at, own_of name r own, sym (seat_here r at (own_of name r own)) ∙ is)
      by_own r at false other = absurd (ended_dead x (sym (ap (seat_of name) at ∙ ap (λ b. cond b (lane_state_of r) Ended) other) ∙ is) live)

      by_job : (o : Option Job) → job_at s j ≡ o → (r : Job) × (job_at s j ≡ Some r) × (r.queue ≡ name) × (lane_state_of r ≡ x)
      by_job None at = absurd (ended_dead x (sym (seat_absent at) ∙ is) live)
      by_job (Some r) at = by_own r at (is_of name r) refl

ended_state : (r : Job) (p : Phase) → has_ended p ≡ true → lane_state_in r p ≡ Ended
ended_state r (phases.Incoming hold) over = absurd (cc)
ended_state r (phases.Waiting hold not_before first) over = absurd (cc)
ended_state r (phases.Processing attempt stage stages) over = absurd (cc)
ended_state r phases.Completed over = refl
ended_state r phases.Canceled over = refl
ended_state r (phases.Aborted reason) over = refl

-- The job of this row, which has ended, is removed, and nothing else changes.
pub record Leaves (s t : State) (j : ℕ) (row : Job) : Type 0 where
  pub names : finite.keys t.queues ≡ finite.keys s.queues
  pub moment : t.moment ≡ s.moment
  pub there : job_at s j ≡ Some row
  pub ended : has_ended row.phase ≡ true
  pub absent : job_at t j ≡ None
  pub others : (k : ℕ) → ¬ (k ≡ j) → job_at t k ≡ job_at s k

-- The job was in no lane.
seat_left : (s t : State) (j : ℕ) (r : Job) → Leaves s t j r → (name : List ℕ) (k : ℕ) → seat t name k ≡ seat s name k
seat_left s t j r leaves name k = elim (cases_eq k j) [
  | inl own ↦ ap (seat t name) own ∙ seat_absent t name j leaves.absent ∙ sym (ap (seat s name) own ∙ ap (seat_of name) leaves.there ∙ either (is_of name r))
  | inr other ↦ ap (seat_of name) (leaves.others k other)
]
  where
    either : (b : Bool) → cond b (lane_state_of r) Ended ≡ Ended
    either true = ended_state r r.phase leaves.ended
    either false = refl

-- A lane depends only on the lane states of the jobs.
pub lane_as : (old new : ℕ → LaneState) (lane : Lane) → ((k : ℕ) → new k ≡ old k) → IsLane old lane → IsLane new lane
lane_as old new lane same is = record {
  waiting = λ e there. same e.id ∙ is.waiting e there;
  listed = λ k e waits. is.listed k e (sym (same k) ∙ waits);
  processing = λ k at. same k ∙ is.processing k at;
  found = λ k at. is.found k (sym (same k) ∙ at);
  live = no_more (λ k. is_live (old k)) (λ k. is_live (new k)) lane.live is.live (λ k alive. sym (ap is_live (same k)) ∙ alive);
  room = is.room;
  reserved = is.reserved;
}

-- ## Pairs of lists

module _ {K Y : Type 0} (P Q : K → Y → Type 0) where
  pub beside_each : (ks : List K) (ys zs : List Y) → AreBeside P ks ys → length zs ≡ length ys → ((i : ℕ) (k : K) (y : Y) → i < length zs → P (get_or ks i k) (get_or ys i y) → Q (get_or ks i k) (get_or zs i y)) → AreBeside Q ks zs
  beside_each ks ys zs are same step = record {
    count = same ∙ are.count;
    each = λ i k y lt. step i k y lt (are.each i k y (subst (λ n. i < n) same lt));
  }

  -- One element is replaced.
  pub beside_set : (ks : List K) (ys : List Y) (at : ℕ) (y : Y) → AreBeside P ks ys → at < length ys
      → ((i : ℕ) (k : K) (d : Y) → i < length ys → (i ≡ at → ⊥) → P (get_or ks i k) (get_or ys i d) → Q (get_or ks i k) (get_or ys i d))
      → ((k : K) → Q (get_or ks at k) y)
      → AreBeside Q ks (set ys at y)
  beside_set ks ys at y are within others own = record {
    count = length-set ys at y ∙ are.count;
    each = λ i k d lt.
        let old : i < length ys = subst (λ n. i < n) (length-set ys at y) lt in
        elim (cases_eq i at) [
          | inl same ↦ subst (λ n. Q (get_or ks n k) (get_or (set ys at y) n d)) (sym same) (subst (λ z. Q (get_or ks at k) z) (sym (get_or-set_same ys at y d within)) (own k))
          | inr other ↦ subst (λ z. Q (get_or ks i k) z) (sym (get_or-set_other ys at i y d other)) (others i k d old other (are.each i k d old))
        ];
  }

  -- One element is inserted.
  pub beside_insert : (ks : List K) (ys : List Y) (at : ℕ) (k : K) (y : Y) → AreBeside P ks ys → at ≤ length ks
      → ((l : K) (z : Y) → P l z → Q l z)
      → Q k y
      → AreBeside Q (insert ks at k) (insert ys at y)
  beside_insert ks ys at k y are within others own = record {
    count = length-insert ys at y (subst (λ n. at ≤ n) (sym are.count) within) ∙ ap (λ n. n + 1) are.count ∙ sym (length-insert ks at k within);
    each = each;
  }
    where
      within_too : at ≤ length ys
      within_too = subst (λ n. at ≤ n) (sym are.count) within

      count : length (insert ys at y) ≡ length ys + 1
      count = length-insert ys at y within_too

      behind : (i : ℕ) (l : K) (z : Y) → at < suc i → suc i < length (insert ys at y) → Q (get_or (insert ks at k) (suc i) l) (get_or (insert ys at y) (suc i) z)
      behind i l z lt in_range =
          let one : i + 1 ≡ suc i = omega arith in
          let up : at ≤ i = omega (arith, lt) in
          let old : i < length ys = omega (arith, in_range, count) in
          subst (λ n. Q (get_or (insert ks at k) n l) (get_or (insert ys at y) n z)) one
          (subst (λ m. Q m (get_or (insert ys at y) (i + 1) z)) (sym (get_or-insert_above ks at k l i up within))
          (subst (λ m. Q (get_or ks i l) m) (sym (get_or-insert_above ys at y z i up within_too))
          (others _ _ (are.each i l z old))))

      before : (i : ℕ) (l : K) (z : Y) → i < at → Q (get_or (insert ks at k) i l) (get_or (insert ys at y) i z)
      before i l z lt =
          let old : i < length ys = omega (arith, lt, within_too) in
          subst (λ m. Q m (get_or (insert ys at y) i z)) (sym (get_or-insert_below ks at k l i lt within))
          (subst (λ m. Q (get_or ks i l) m) (sym (get_or-insert_below ys at y z i lt within_too))
          (others _ _ (are.each i l z old)))

      here : (l : K) (z : Y) → Q (get_or (insert ks at k) at l) (get_or (insert ys at y) at z)
      here l z =
          subst (λ m. Q m (get_or (insert ys at y) at z)) (sym (get_or-insert_at ks at k l within))
          (subst (λ m. Q k m) (sym (get_or-insert_at ys at y z within_too)) own)

      by_place : (i : ℕ) (l : K) (z : Y) → i < length (insert ys at y) → (i ≡ at) ⊎ (i ≡ at → ⊥) → Q (get_or (insert ks at k) i l) (get_or (insert ys at y) i z)
      by_place i l z lt (inl same) = subst (λ n. Q (get_or (insert ks at k) n l) (get_or (insert ys at y) n z)) (sym same) (here l z)
      by_place zero l z lt (inr other) = before zero l z (omega (arith, other))
      by_place (suc i) l z lt (inr other) = elim (cases_lt (suc i) at) [ inl below ↦ before (suc i) l z below | inr above ↦ behind i l z (omega (arith, above, other)) lt ]

      each : (i : ℕ) (l : K) (z : Y) → i < length (insert ys at y) → Q (get_or (insert ks at k) i l) (get_or (insert ys at y) i z)
      each i l z lt = by_place i l z lt (cases_eq i at)

-- ## A job gets another lane state

module _ (s t : State) (legal : IsLegal t) (j : ℕ) (moves : Moves s t j) (r : Job) (there : job_at s j ≡ Some r) where
  abbrev moved : Job
  moved = (moves.own r there).0

  pub moved_seat : IsReseated (seat s r.queue) (seat t r.queue) j (lane_state_of moved)
  moved_seat = record {
    own = seat_here t r.queue j moved (moves.own r there).1 (moves.own r there).2.queue;
    others = λ k other. ap (seat_of r.queue) (moves.others k other);
  }

  pub moved_elsewhere : (name : List ℕ) → (name ≡ r.queue → ⊥) → (k : ℕ) → seat t name k ≡ seat s name k
  moved_elsewhere name other k = elim (cases_eq k j) [
    | inl same ↦
        subst (λ n. seat t name n ≡ seat s name n) (sym same)
        (seat_else t name j moved (moves.own r there).1 (λ own. other (sym own ∙ (moves.own r there).2.queue))
        ∙ sym (seat_else s name j r there (λ own. other (sym own))))
    | inr apart ↦ ap (seat_of name) (moves.others k apart)
  ]

  pub moved_number : (e : Entry) → lane_state_of moved ≡ Waiting e → e.id ≡ j
  moved_number e is = ap (λ (f : Entry). f.id) (waiting_phase moved moved.phase e is).0 ∙ (legal.jobs j moved (moves.own r there).1).id

  -- No other job of its queue is processing.
  pub moved_alone : (lane : Lane) → IsLane (seat s r.queue) lane → lane_state_of moved ≡ Processing → (k : ℕ) → lane.processing ≡ Some k → k ≡ j
  moved_alone lane is busy k at = elim (cases_eq k j) [
    | inl same ↦ same
    | inr other ↦
        (let found = seat_found s r.queue k Processing (is.processing k at) refl in
        legal.one_processing k j found.0 moved (moves.others k other ∙ found.1) (moves.own r there).1 (found.2 ∙ sym (moves.own r there).2.queue)
        (processing_phase found.0 found.0.phase found.3) (processing_phase moved moved.phase busy))
  ]

no_more_live : (from to : LaneState) (old new v w : ℕ) → new + live_count from ≡ old + live_count to → (is_live to ≡ true → is_live from ≡ false → ⊥) → old + v ≤ w → new + v ≤ w
no_more_live from to old new v w count keeps spare = by_count (is_live from) (is_live to) refl refl
  where
    by_count : (b c : Bool) → is_live from ≡ b → is_live to ≡ c → new + v ≤ w
    by_count true true is is_to = (let same : new + 1 ≡ old + 1 = ap (λ x. new + cond x 1 0) (sym is) ∙ count ∙ ap (λ x. old + cond x 1 0) is_to in omega (arith, same, spare))
    by_count true false is is_to = (let same : new + 1 ≡ old + 0 = ap (λ x. new + cond x 1 0) (sym is) ∙ count ∙ ap (λ x. old + cond x 1 0) is_to in omega (arith, same, spare))
    by_count false true is is_to = absurd (keeps is_to is)
    by_count false false is is_to = (let same : new + 0 ≡ old + 0 = ap (λ x. new + cond x 1 0) (sym is) ∙ count ∙ ap (λ x. old + cond x 1 0) is_to in omega (arith, same, spare))

-- The lane after a job got another lane state.
pub record IsReseatedLane (j : ℕ) (from to : LaneState) (old new : Lane) : Type 0 where
  pub lane : (before after : ℕ → LaneState) → IsLane before old → before j ≡ from → IsReseated before after j to → IsLane after new
  pub live : new.live + live_count from ≡ old.live + live_count to
  pub moment : new.index.moment ≡ old.index.moment
  pub reserved : new.reserved ≡ old.reserved

module _ (s t : State) (v : ℕ) (lanes : List Lane) (are : AreLanes s v lanes) where
  abbrev names : List (List ℕ)
  names = finite.keys s.queues

  pub place_within : (name : List ℕ) (at : ℕ) → IsNameAt names name at → at < length lanes
  place_within name at place = subst (λ n. at < n) (sym are.count) place.in_range

  pub lane_at : (name : List ℕ) (at : ℕ) → IsNameAt names name at → (d : Lane) → IsLaneOf s v name (get_or lanes at d)
  lane_at name at place d = subst (λ n. IsLaneOf s v n (get_or lanes at d)) place.own (are.each at [] d (place_within name at place))

  other_name : (name : List ℕ) (at : ℕ) → IsNameAt names name at → (i : ℕ) (k : List ℕ) → i < length lanes → (i ≡ at → ⊥) → get_or names i k ≡ name → ⊥
  other_name name at place i k lt other same =
      let within : i < length names = subst (λ n. i < n) are.count lt in
      other (place.only i within (sym (get_or_default names i k [] within) ∙ same))

  own_name : (name : List ℕ) (at : ℕ) → IsNameAt names name at → (k : List ℕ) → name ≡ get_or names at k
  own_name name at place k = sym place.own ∙ get_or_default names at [] k place.in_range

  -- The lanes after a job got another lane state in its lane, if the other lanes have their jobs as before.
  pub lanes_reseated : (w : ℕ) → w ≤ v → t.moment ≡ s.moment → (name : List ℕ) (at : ℕ) → IsNameAt names name at
      → ((other : List ℕ) → (other ≡ name → ⊥) → (k : ℕ) → seat t other k ≡ seat s other k)
      → (j : ℕ) (from to : LaneState) (new d : Lane) → IsReseatedLane j from to (get_or lanes at d) new
      → seat s name j ≡ from → IsReseated (seat s name) (seat t name) j to → (new.live + w ≤ new.reserved)
      → AreBeside (IsLaneOf t w) names (set lanes at new)
  lanes_reseated w fewer moment name at place elsewhere j from to new d changed was seated spare =
      beside_set (IsLaneOf s v) (IsLaneOf t w) names lanes at new are (place_within name at place)
      (λ i k d lt other is. record {
        lane = lane_as (seat s (get_or names i k)) (seat t (get_or names i k)) (get_or lanes i d) (elsewhere (get_or names i k) (other_name name at place i k lt other)) is.lane;
        moment = is.moment ∙ sym moment;
        spare = omega (arith, fewer, is.spare);
      })
      (λ k. subst (λ n. IsLaneOf t w n new) (own_name name at place k) (record {
        lane = changed.lane (seat s name) (seat t name) (lane_at name at place d).lane was seated;
        moment = changed.moment ∙ (lane_at name at place d).moment ∙ sym moment;
        spare = spare;
      }))

  pub lanes_stay : Stays s t → AreLanes t v lanes
  lanes_stay stays =
      subst (λ ns. AreBeside (IsLaneOf t v) ns lanes) (sym stays.names)
      (beside_each (IsLaneOf s v) (IsLaneOf t v) names lanes lanes are refl (λ i k d lt is. record {
        lane = lane_as (seat s (get_or names i k)) (seat t (get_or names i k)) (get_or lanes i d) (λ n. ap (seat_of (get_or names i k)) (stays.jobs n)) is.lane;
        moment = is.moment ∙ sym stays.moment;
        spare = is.spare;
      }))

  -- The lanes without a job that had ended, and without room for a new one.
  pub lanes_left : (j : ℕ) (r : Job) → Leaves s t j r → AreLanes t 0 lanes
  lanes_left j r leaves =
      subst (λ ns. AreBeside (IsLaneOf t 0) ns lanes) (sym leaves.names)
      (beside_each (IsLaneOf s v) (IsLaneOf t 0) names lanes lanes are refl (λ i k d lt is.
      let fewer = is.spare in
      record {
        lane = lane_as (seat s (get_or names i k)) (seat t (get_or names i k)) (get_or lanes i d) (seat_left s t j r leaves (get_or names i k)) is.lane;
        moment = is.moment ∙ sym leaves.moment;
        spare = omega (arith, fewer);
      }))

  -- The lanes after a job changed its lane state.
  pub lanes_moved : IsLegal t → (j : ℕ) (moves : Moves s t j) (r : Job) (there : job_at s j ≡ Some r) (at : ℕ) → IsNameAt names r.queue at
      → (q : Job) → job_at t j ≡ Some q → (is_live (lane_state_of q) ≡ true → is_live (lane_state_of r) ≡ false → ⊥)
      → (new d : Lane) → IsReseatedLane j (lane_state_of r) (lane_state_of q) (get_or lanes at d) new
      → AreLanes t v (set lanes at new)
  lanes_moved legal j moves r there at place q there_too keeps new d changed =
      let same : moved s t legal j moves r there ≡ q = some_same _ q (sym (moves.own r there).1 ∙ there_too) in
      let own = lane_at r.queue at place d in
      subst (λ ns. AreBeside (IsLaneOf t v) ns (set lanes at new)) (sym moves.names)
      (lanes_reseated v (omega arith) moves.moment r.queue at place (moved_elsewhere s t legal j moves r there) j (lane_state_of r) (lane_state_of q) new d changed
      (seat_here s r.queue j r there refl)
      (subst (λ x. IsReseated (seat s r.queue) (seat t r.queue) j (lane_state_of x)) same (moved_seat s t legal j moves r there))
      (no_more_live (lane_state_of r) (lane_state_of q) (get_or lanes at d).live new.live v new.reserved changed.live keeps (subst (λ n. (get_or lanes at d).live + v ≤ n) (sym changed.reserved) own.spare)))

-- ## A new job

-- A new job, and nothing else.
pub record Gains (s t : State) (j : ℕ) (q : Job) : Type 0 where
  pub names : finite.keys t.queues ≡ finite.keys s.queues
  pub moment : t.moment ≡ s.moment
  pub others : (k : ℕ) → ¬ (k ≡ j) → job_at t k ≡ job_at s k
  pub absent : job_at s j ≡ None
  pub there : job_at t j ≡ Some q

module _ (s t : State) (legal : IsLegal t) (j : ℕ) (q : Job) (gains : Gains s t j q) where
  gained_seat : IsReseated (seat s q.queue) (seat t q.queue) j (lane_state_of q)
  gained_seat = record {
    own = seat_here t q.queue j q gains.there refl;
    others = λ k other. ap (seat_of q.queue) (gains.others k other);
  }

  gained_elsewhere : (name : List ℕ) → (name ≡ q.queue → ⊥) → (k : ℕ) → seat t name k ≡ seat s name k
  gained_elsewhere name other k = elim (cases_eq k j) [
    | inl same ↦
        subst (λ n. seat t name n ≡ seat s name n) (sym same)
        (seat_else t name j q gains.there (λ own. other (sym own)) ∙ sym (seat_absent s name j gains.absent))
    | inr apart ↦ ap (seat_of name) (gains.others k apart)
  ]

  pub gained_number : (e : Entry) → lane_state_of q ≡ Waiting e → e.id ≡ j
  gained_number e is = ap (λ (f : Entry). f.id) (waiting_phase q q.phase e is).0 ∙ (legal.jobs j q gains.there).id

  pub gained_alone : (lane : Lane) → IsLane (seat s q.queue) lane → lane_state_of q ≡ Processing → (k : ℕ) → lane.processing ≡ Some k → k ≡ j
  gained_alone lane is busy k at = elim (cases_eq k j) [
    | inl same ↦ same
    | inr other ↦
        (let found = seat_found s q.queue k Processing (is.processing k at) refl in
        legal.one_processing k j found.0 q (gains.others k other ∙ found.1) gains.there found.2
        (processing_phase found.0 found.0.phase found.3) (processing_phase q q.phase busy))
  ]

  pub lanes_gained : (v : ℕ) → 0 < v → (lanes : List Lane) (are : AreLanes s v lanes) (at : ℕ) → IsNameAt (finite.keys s.queues) q.queue at
      → (new d : Lane) → IsReseatedLane j Ended (lane_state_of q) (get_or lanes at d) new → AreLanes t 0 (set lanes at new)
  lanes_gained v some lanes are at place new d changed =
      let own = lane_at s t v lanes are q.queue at place d in
      subst (λ ns. AreBeside (IsLaneOf t 0) ns (set lanes at new)) (sym gains.names)
      (lanes_reseated s t v lanes are 0 (omega arith) gains.moment q.queue at place gained_elsewhere j Ended (lane_state_of q) new d changed
      (seat_absent s q.queue j gains.absent) gained_seat
      (one_more (lane_state_of q) (get_or lanes at d).live new.live (get_or lanes at d).reserved new.reserved changed.live changed.reserved own.spare))
    where
      one_more : (to : LaneState) (old now room after : ℕ) → now + 0 ≡ old + live_count to → after ≡ room → old + v ≤ room → now + 0 ≤ after
      one_more to old now room after count same spare = by_live (is_live to) refl
        where
          by_live : (b : Bool) → is_live to ≡ b → now + 0 ≤ after
          by_live true is = (let more : now + 0 ≡ old + 1 = count ∙ ap (λ x. old + cond x 1 0) is in omega (arith, more, same, spare, some))
          by_live false is = (let more : now + 0 ≡ old + 0 = count ∙ ap (λ x. old + cond x 1 0) is in omega (arith, more, same, spare, some))

-- ## A new queue

module _ (s t : State) (legal : IsLegal s) (name : List ℕ) (absent : queue_at s name ≡ None) (same : (k : ℕ) → job_at t k ≡ job_at s k) where
  -- Its lane has no jobs.
  none_stands : (k : ℕ) → seat t name k ≡ Ended
  none_stands k = ap (seat_of name) (same k) ∙ by_job (job_at s k) refl
    where
      needed : (r : Job) → IsSome (queue_at s r.queue) → r.queue ≡ name → ⊥
      needed r there own = needed_and_not _ _ there absent (ap (queue_at s) (sym own))

      by_job : (o : Option Job) → job_at s k ≡ o → seat s name k ≡ Ended
      by_job None at = seat_absent s name k at
      by_job (Some r) at = seat_else s name k r at (needed r (legal.jobs k r at).queue)

  pub lanes_added : (v : ℕ) (lanes : List Lane) → AreLanes s v lanes → t.moment ≡ s.moment → (at : ℕ) → at ≤ length (finite.keys s.queues)
      → finite.keys t.queues ≡ insert (finite.keys s.queues) at name
      → (lane : Lane) → ((seats : ℕ → LaneState) → ((j : ℕ) → seats j ≡ Ended) → IsLane seats lane) → lane.index.moment ≡ s.moment
      → AreLanes t 0 (insert lanes at lane)
  lanes_added v lanes are moment at within names lane empty at_moment =
      let own = empty (seat t name) none_stands in
      subst (λ ns. AreBeside (IsLaneOf t 0) ns (insert lanes at lane)) (sym names)
      (beside_insert (IsLaneOf s v) (IsLaneOf t 0) (finite.keys s.queues) lanes at name lane are within
      (λ other old is. record {
        lane = lane_as (seat s other) (seat t other) old (λ k. ap (seat_of other) (same k)) is.lane;
        moment = is.moment ∙ sym moment;
        spare = omega (arith, is.spare);
      })
      (record { lane = own; moment = at_moment ∙ sym moment; spare = omega (arith, own.room) }))

-- ## All lanes change

module _ (s : State) (v : ℕ) (lanes news : List Lane) (are : AreLanes s v lanes) (count : length news ≡ length lanes) where
  -- The lanes after a new moment.
  pub lanes_advanced : (t : State) → finite.keys t.queues ≡ finite.keys s.queues → ((k : ℕ) → job_at t k ≡ job_at s k)
      → ((i : ℕ) (d : Lane) → i < length news → IsAdvanced t.moment (get_or lanes i d) (get_or news i d)) → AreLanes t v news
  lanes_advanced t names same each =
      subst (λ ns. AreBeside (IsLaneOf t v) ns news) (sym names)
      (beside_each (IsLaneOf s v) (IsLaneOf t v) (finite.keys s.queues) lanes news are count (λ i k d lt is.
      let new = each i d lt in
      record {
        lane = lane_as (seat s (get_or (finite.keys s.queues) i k)) (seat t (get_or (finite.keys s.queues) i k)) (get_or news i d) (λ n. ap (seat_of (get_or (finite.keys s.queues) i k)) (same n)) (new.lane _ is.lane);
        moment = new.moment;
        spare = omega (arith, is.spare, new.live, new.reserved);
      }))

  -- The lanes after room was reserved.
  pub lanes_kept : (w : ℕ) → ((i : ℕ) (d : Lane) → i < length news → IsSameLane (get_or lanes i d) (get_or news i d))
      → ((i : ℕ) (d : Lane) → i < length news → (get_or news i d).live + w ≤ (get_or news i d).reserved) → AreLanes s w news
  lanes_kept w each spare =
      beside_each (IsLaneOf s v) (IsLaneOf s w) (finite.keys s.queues) lanes news are count (λ i k d lt is.
      let new = each i d lt in
      record { lane = new.lane _ is.lane; moment = new.moment ∙ is.moment; spare = spare i d lt })

-- ## An event about a job

same_subject : (s : State) (j k : ℕ) → Some k ≡ Some j → (r : Job) × (job_at s k ≡ Some r) → (r : Job) × (job_at s j ≡ Some r)
same_subject s j k is found = subst (λ n. (r : Job) × (job_at s n ≡ Some r)) (number_of j k is) found

-- The job of an accepted event exists.
subject_by : (s : State) (j : ℕ) (change : Change) (own : List (Bool × Refusal)) → subject_of change ≡ Some j → first_cause (causes_of s change own) ≡ None → (r : Job) × (job_at s j ≡ Some r)
subject_by s j (NewQueueRow q) own is accepted = absurd (cc)
subject_by s j (OfQueue name f) own is accepted = absurd (cc)
subject_by s j (NewJobRow x) own is accepted = absurd (cc)
subject_by s j (OfJob k f) own is accepted = same_subject s j k is (job_found s k own accepted)
subject_by s j (OfBoth k effects verdict) own is accepted = same_subject s j k is (job_found s k own accepted)
subject_by s j (WithoutJob k) own is accepted = absurd (cc)
subject_by s j (OfClock m) own is accepted = absurd (cc)
subject_by s j OfAll own is accepted = absurd (cc)

subject_there : (s : State) (j : ℕ) (e : Event) → subject e ≡ Some j → refusal_of s e ≡ None → (r : Job) × (job_at s j ≡ Some r)
subject_there s j e is accepted = subject_by s j (change_by e) ((row e).own s) is accepted

-- The job of an accepted event has not ended.
subject_live : (s : State) → IsLegal s → (j : ℕ) (e : Event) → subject e ≡ Some j → refusal_of s e ≡ None → (r : Job) → job_at s j ≡ Some r → is_live (lane_state_of r) ≡ false → ⊥
subject_live s legal j e is accepted r there dead =
    refused_and_not (refusal_of s e) JobEnded
    (refused_as_ended s j r (record { legal = legal; there = there; ended = dead_phase r r.phase dead }) e is) accepted

-- The table after an event about a job: the job's lane state may have changed, and nothing else.
pub record Goes (s t : State) (j : ℕ) : Type 0 where
  pub moves : Moves s t j
  pub legal : IsLegal t
  pub row : Job
  pub there : job_at s j ≡ Some row
  pub alive : is_live (lane_state_of row) ≡ false → ⊥

pub goes : ((effects : List Effect) → KeepsOrder effects) → (s t : State) → IsLegal s → (j : ℕ) (e : Event) → subject e ≡ Some j → refusal_of s e ≡ None → t ≡ after s e → Goes s t j
goes law s t legal j e is accepted after_it =
    let found = subject_there s j e is accepted in
    record {
      moves = subst (λ u. Moves s u j) (sym after_it) (moves s legal j e (keeps_each law e) accepted is);
      legal = subst IsLegal (sym after_it) (legal_after s e (keeps_each law e) accepted legal);
      row = found.0;
      there = found.1;
      alive = subject_live s legal j e is accepted found.0 found.1;
    }

module _ (s t : State) (j : ℕ) (g : Goes s t j) where
  -- The job after the event.
  abbrev pub gone : Job
  gone = moved s t g.legal j g.moves g.row g.there

  pub gone_there : job_at t j ≡ Some gone
  gone_there = (g.moves.own g.row g.there).1

  pub goes_number : (e : Entry) → lane_state_of gone ≡ Waiting e → e.id ≡ j
  goes_number = moved_number s t g.legal j g.moves g.row g.there

  module _ (v : ℕ) (lanes : List Lane) (are : AreLanes s v lanes) (at : ℕ) (place : IsNameAt (finite.keys s.queues) g.row.queue at) where
    module _ (x : Lane) (is : x ≡ get_or lanes at x) where
      own_lane : IsLane (seat s g.row.queue) x
      own_lane = subst (IsLane (seat s g.row.queue)) (sym is) (lane_at s t v lanes are g.row.queue at place x).lane

      pub goes_from : (from : LaneState) → from ≡ lane_state_of g.row → HasSeat x j from
      goes_from from stood = record { seats = seat s g.row.queue; lane = own_lane; own = seat_here s g.row.queue j g.row g.there refl ∙ sym stood }

      pub goes_alone : lane_state_of gone ≡ Processing → (k : ℕ) → x.processing ≡ Some k → k ≡ j
      goes_alone = moved_alone s t g.legal j g.moves g.row g.there x own_lane

      pub goes_lanes : (new : Lane) → IsReseatedLane j (lane_state_of g.row) (lane_state_of gone) x new → AreLanes t v (set lanes at new)
      goes_lanes new changed = lanes_moved s t v lanes are g.legal j g.moves g.row g.there at place gone gone_there (λ live dead. g.alive dead) new x (subst (λ y. IsReseatedLane j (lane_state_of g.row) (lane_state_of gone) y new) is changed)
