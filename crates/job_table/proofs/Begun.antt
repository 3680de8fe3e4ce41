-- The jobs are added to the drafts in ascending order of number.
use Rattle.std.proofs.Common.{◌≡◌, ℕ, ◌+◌, ◌<◌, ◌≤◌, inl, inr, true, false, cond, List, [], length, get_or, set, map, Option, Some, None, IsTrue, refl, sym, ap, subst, ◌∙◌, arith}
use Rattle.std.specs.Prelude.{nat_lt, T}
use Rattle.std.specs.declared.cmp.Ordering.TheVariants.{Less}
use Rattle.std.specs.List.{All}
use Rattle.std.specs.Ordering.{nat_cmp, MatchOrdering}
use Rattle.std.specs.Cmp.{nat_cmp_total, nat_cmp_is, ranks}
use Rattle.std.specs.FinMap as finite
use Rattle.std.proofs.Math.ListN.{get_or-map}
use Rattle.std.proofs.lemmas.Bool.{cases_eq, cases_lt}
use Rattle.std.proofs.lemmas.Bool.Decides.{nat_tests}
use Rattle.std.proofs.lemmas.List.{get_or_default, length-map}
use Rattle.spool_types.specs.State.{State, Job, job_of, queue_at, job_at}
use Rattle.spool_types.specs.declared.rows.JobRow.{JobRow}
use Rattle.job_table.specs.LaneDrafts.{IsBlank, IsDraft, AreDrafts}
use Rattle.job_table.specs.Lanes.{lane_state_of, seat, IsReseated, AreBeside}
use Rattle.job_table.specs.Legal.{IsLegal}
use Rattle.job_rows.specs.RowPositions.{IsPosition}
use Rattle.job_table.specs.QueuePositions.{IsNameAt}
use Rattle.job_table.specs.declared.lane.LaneState.{LaneState}
use Rattle.job_table.specs.declared.lane.LaneState.TheVariants.{Ended, Processing}
use Rattle.job_table.specs.declared.lane.draft.Draft.{Draft}
use Rattle.job_table.proofs.Choice.{value_there, there_value}
use Rattle.job_table.proofs.Drafts.{draft_as}
use Rattle.job_table.proofs.Lanes.{none_left}
use Rattle.job_table.proofs.Rows as rows
use Rattle.job_table.proofs.Seats.{processing_phase, seat_absent, seat_else, seat_found, seat_here, beside_set}
use Rattle.job_table.proofs.Tables.{map-same, needed_and_not}

-- ## The jobs below a number

-- Jobs below the number have their lane states, and all others count as jobs that do not exist.
pub below : ℕ → (ℕ → LaneState) → ℕ → LaneState
below n seats j = cond (nat_lt j n) (seats j) Ended

is_below : (j n : ℕ) → j < n → nat_lt j n ≡ true
is_below j n lt = grind (arith, nat_tests)

not_below : (j n : ℕ) → n ≤ j → nat_lt j n ≡ false
not_below j n le = grind (arith, nat_tests)

module _ (n : ℕ) (seats : ℕ → LaneState) (j : ℕ) where
  pub below_there : j < n → below n seats j ≡ seats j
  unfolding below
  below_there lt = ap (λ b. cond b (seats j) Ended) (is_below j n lt)

  pub below_ended : n ≤ j → below n seats j ≡ Ended
  unfolding below
  below_ended le = ap (λ b. cond b (seats j) Ended) (not_below j n le)

-- A draft that has the jobs below a number, which are at most `count`.
pub record IsBegun (s : State) (number count : ℕ) (name : List ℕ) (d : Draft) : Type 0 where
  pub draft : IsDraft (below number (seat s name)) d
  pub few : d.live ≤ count

-- Each draft has the jobs before this position.
pub record AreBegun (s : State) (at : ℕ) (drafts : List Draft) : Type 0 where
  pub number : ℕ
  pub before : (i : ℕ) (r : Job) → i < at → i < length (finite.values s.jobs) → (get_or (finite.values s.jobs) i r).id < number
  pub behind : (i : ℕ) (r : Job) → at ≤ i → i < length (finite.values s.jobs) → number ≤ (get_or (finite.values s.jobs) i r).id
  pub each : AreBeside (IsBegun s number at) (finite.keys s.queues) drafts

-- This job is at this position.
pub record StandsAt (s : State) (at : ℕ) (r : Job) : Type 0 where
  pub within : at < length (finite.values s.jobs)
  pub here : get_or (finite.values s.jobs) at r ≡ r

pub row_stands : (s : State) (rows : List JobRow) → map job_of rows ≡ finite.values s.jobs → (at : ℕ) (row : JobRow) → at < length rows → row ≡ get_or rows at row → StandsAt s at (job_of row)
row_stands s rows same at row lt is = record {
  within = subst (λ n. at < n) (sym (length-map rows job_of) ∙ ap length same) lt;
  here = ap (λ js. get_or js at (job_of row)) (sym same) ∙ get_or-map job_of rows at row ∙ ap job_of (sym is);
}

pub begun_blank : (s : State) (drafts : List Draft) → length drafts ≡ finite.len s.queues → All IsBlank drafts → AreBegun s 0 drafts
begun_blank s drafts count blank = record {
  number = 0;
  before = λ i r lt within. absurd (omega (arith, lt));
  behind = λ i r le within. omega arith;
  each = record {
    count = count ∙ finite.len-entries s.queues ∙ sym (length-map (finite.entries s.queues) (λ e. e.0));
    each = λ i name d lt.
        let is = blank i d lt in
        record { draft = is.draft (below 0 (seat s (get_or (finite.keys s.queues) i name))) (λ j. below_ended 0 (seat s (get_or (finite.keys s.queues) i name)) j (omega arith)); few = omega (arith, is.none) };
  };
}

module _ (s : State) (legal : IsLegal s) where
  abbrev jobs : List Job
  jobs = finite.values s.jobs

  abbrev entries : List (ℕ × Job)
  entries = finite.entries s.jobs

  -- The key of a job is its number.
  entry_number : (i : ℕ) (d : ℕ × Job) → i < length entries → (get_or entries i d).1.id ≡ (get_or entries i d).0
  entry_number i d lt =
      let e = get_or entries i d in
      let place : IsPosition nat_cmp (λ (x : ℕ × Job). x.0) entries e.0 i = record { in_range = lt; same = λ x. ap (λ (y : ℕ × Job). nat_cmp y.0 e.0) (get_or_default entries i x d lt) ∙ sym (nat_cmp_is e.0 e.0 _ refl) } in
      let found : finite.find nat_cmp e.0 entries ≡ Some e.1 =
      subst (λ fs. finite.find nat_cmp e.0 fs ≡ Some e.1) (map-same entries)
      (rows.find_place nat_cmp nat_cmp_total (λ (x : ℕ × Job). x.0) (λ (x : ℕ × Job). x.1) entries (subst (λ fs. IsTrue (finite.is_sorted nat_cmp fs)) (sym (map-same entries)) (rows.true_from _ (finite.entries_sorted s.jobs))) e.0 i d place) in
      (legal.jobs e.0 e.1 (finite.get-entries s.jobs e.0 ∙ found)).id

  -- The numbers are in ascending order.
  entries_rise : (i j : ℕ) (d : ℕ × Job) → i < j → j < length entries → (get_or entries i d).0 < (get_or entries j d).0
  entries_rise i j d lt within =
      let less : nat_cmp (get_or entries i d).0 (get_or entries j d).0 ≡ Less =
      rows.rise nat_cmp nat_cmp_total (λ (x : ℕ × Job). x.0) (λ (x : ℕ × Job). x.1) entries (subst (λ fs. T (finite.is_sorted nat_cmp fs)) (sym (map-same entries)) (finite.entries_sorted s.jobs)) i j d lt within in
      subst (λ o. MatchOrdering o ((get_or entries i d).0 < (get_or entries j d).0) ((get_or entries i d).0 ≡ (get_or entries j d).0) ((get_or entries j d).0 < (get_or entries i d).0)) less
      (ranks (get_or entries i d).0 (get_or entries j d).0)

  job_number : (i : ℕ) (r : Job) → i < length jobs → (get_or jobs i r).id ≡ (get_or entries i (0, r)).0
  job_number i r lt =
      ap (λ (x : Job). x.id) (get_or-map (λ (e : ℕ × Job). e.1) entries i (0, r))
      ∙ entry_number i (0, r) (subst (λ n. i < n) (length-map entries (λ (e : ℕ × Job). e.1)) lt)

  pub numbers_rise : (i j : ℕ) (r : Job) → i < j → j < length jobs → (get_or jobs i r).id < (get_or jobs j r).id
  numbers_rise i j r lt within =
      let rise = entries_rise i j (0, r) lt (subst (λ n. j < n) (length-map entries (λ (e : ℕ × Job). e.1)) within) in
      omega (arith, rise, job_number i r (omega (arith, lt, within)), job_number j r within)

  -- A job of the table is at a position, and has its own number.
  stands_at : (j : ℕ) (q : Job) → job_at s j ≡ Some q → (i : ℕ) × (i < length jobs) × (get_or jobs i q ≡ q) × (q.id ≡ j)
  stands_at j q there = (let found = value_there s j q there in (found.0, found.1, found.2, (legal.jobs j q there).id))

  -- The queue of each job exists.
  pub this_queue : (at : ℕ) (r : Job) → StandsAt s at r → queue_at s r.queue ≡ None → ⊥
  this_queue at r stands absent = needed_and_not (queue_at s r.queue) (queue_at s r.queue) (legal.jobs r.id r (there_value s legal r (at, stands.within, stands.here))).queue absent refl

  module _ (at : ℕ) (drafts : List Draft) (begun : AreBegun s at drafts) where
    -- At the end all jobs are below the number.
    none_left_out : length jobs ≤ at → (j : ℕ) → begun.number ≤ j → (o : Option Job) → job_at s j ≡ o → o ≡ None
    none_left_out ends j le None there = refl
    none_left_out ends j le (Some q) there =
        let stands = stands_at j q there in
        let lt : (get_or jobs stands.0 q).id < begun.number = begun.before stands.0 q (omega (arith, ends, stands.1)) stands.1 in
        absurd (omega (arith, lt, le, stands.3, ap (λ (x : Job). x.id) stands.2))

    pub begun_all : length jobs ≤ at → AreDrafts s drafts
    begun_all ends = record {
      count = begun.each.count;
      each = λ i name d lt.
          let own : List ℕ = get_or (finite.keys s.queues) i name in
          draft_as (below begun.number (seat s own)) (seat s own) (get_or drafts i d) (λ j. elim (cases_lt j begun.number) [
            | inl lt ↦ sym (below_there begun.number (seat s own) j lt)
            | inr le ↦ seat_absent s own j (none_left_out ends j le (job_at s j) refl) ∙ sym (below_ended begun.number (seat s own) j le)
          ]) (begun.each.each i name d lt).draft;
    }

    module _ (r : Job) (this : StandsAt s at r) where
      there : job_at s r.id ≡ Some r
      there = there_value s legal r (at, this.within, this.here)

      -- The same is true for every default value.
      own_number : (q : Job) → (get_or jobs at q).id ≡ r.id
      own_number q = ap (λ (x : Job). x.id) (get_or_default jobs at q r this.within ∙ this.here)

      pub this_above : begun.number ≤ r.id
      this_above = omega (arith, begun.behind at r (omega arith) this.within, own_number r)

      -- No other job has a number between the bound and this job's number.
      none_between : (j : ℕ) → begun.number ≤ j → j < r.id + 1 → (j ≡ r.id → ⊥) → (o : Option Job) → job_at s j ≡ o → o ≡ None
      none_between j le lt other None at_j = refl
      none_between j le lt other (Some q) at_j =
          let stands = stands_at j q at_j in
          let i = stands.0 in
          let own : (get_or jobs i q).id ≡ j = ap (λ (x : Job). x.id) stands.2 ∙ stands.3 in
          let last = own_number q in
          elim (cases_lt i at) [
            | inl before ↦ absurd (omega (arith, begun.before i q before stands.1, own, le))
            | inr behind ↦ elim (cases_lt at i) [
              | inl after ↦ absurd (omega (arith, numbers_rise at i q after stands.1, own, last, lt))
              | inr same ↦
                  (let i_is : i ≡ at = omega (arith, behind, same) in
                  absurd (other (sym own ∙ ap (λ n. (get_or jobs n q).id) i_is ∙ last)))
            ]
          ]

      -- All others have the same lane states as before.
      others_stand : (name : List ℕ) (j : ℕ) → (j ≡ r.id → ⊥) → below (r.id + 1) (seat s name) j ≡ below begun.number (seat s name) j
      others_stand name j other = elim (cases_lt j begun.number) [
        | inl low ↦ below_there (r.id + 1) (seat s name) j (omega (arith, low, this_above)) ∙ sym (below_there begun.number (seat s name) j low)
        | inr le ↦ elim (cases_lt j (r.id + 1)) [
          | inl lt ↦ below_there (r.id + 1) (seat s name) j lt ∙ seat_absent s name j (none_between j le lt other (job_at s j) refl) ∙ sym (below_ended begun.number (seat s name) j le)
          | inr high ↦ below_ended (r.id + 1) (seat s name) j high ∙ sym (below_ended begun.number (seat s name) j le)
        ]
      ]

      -- In another queue this job has the same lane state as before, too.
      elsewhere : (name : List ℕ) → (r.queue ≡ name → ⊥) → (j : ℕ) → below (r.id + 1) (seat s name) j ≡ below begun.number (seat s name) j
      elsewhere name apart j = elim (cases_eq j r.id) [
        | inl same ↦
            subst (λ k. below (r.id + 1) (seat s name) k ≡ below begun.number (seat s name) k) (sym same)
            (below_there (r.id + 1) (seat s name) r.id (omega arith) ∙ seat_else s name r.id r there apart ∙ sym (below_ended begun.number (seat s name) r.id this_above))
        | inr other ↦ others_stand name j other
      ]

      this_reseated : IsReseated (below begun.number (seat s r.queue)) (below (r.id + 1) (seat s r.queue)) r.id (lane_state_of r)
      this_reseated = record {
        own = below_there (r.id + 1) (seat s r.queue) r.id (omega arith) ∙ seat_here s r.queue r.id r there refl;
        others = λ j other. others_stand r.queue j other;
      }

      module _ (place : ℕ) (of : IsNameAt (finite.keys s.queues) r.queue place) (d : Draft) where
        abbrev names : List (List ℕ)
        names = finite.keys s.queues

        pub position_in : place < length drafts
        position_in = subst (λ n. place < n) (sym begun.each.count) of.in_range

        pub own_draft : IsBegun s begun.number at r.queue (get_or drafts place d)
        own_draft = subst (λ name. IsBegun s begun.number at name (get_or drafts place d)) of.own (begun.each.each place [] d position_in)

        -- If the job is processing, its queue's draft has no processing job.
        pub this_alone : lane_state_of r ≡ Processing → (get_or drafts place d).processing ≡ None
        this_alone busy = none_left (get_or drafts place d).processing (λ k at_k.
            let stands : below begun.number (seat s r.queue) k ≡ Processing = own_draft.draft.lane.processing k at_k in
            elim (cases_lt k begun.number) [
              | inl low ↦
                  (let found = seat_found s r.queue k Processing (sym (below_there begun.number (seat s r.queue) k low) ∙ stands) refl in
                  let same : k ≡ r.id = legal.one_processing k r.id found.0 r found.1 there found.2 (processing_phase found.0 found.0.phase found.3) (processing_phase r r.phase busy) in
                  omega (arith, low, same, this_above))
              | inr high ↦ (let no : Ended ≡ Processing = sym (below_ended begun.number (seat s r.queue) k high) ∙ stands in absurd (cc))
            ])

        -- The drafts after the job was added to its queue's draft.
        pub begun_more : (new : Draft) → ((before after : ℕ → LaneState) → IsDraft before (get_or drafts place d) → before r.id ≡ Ended → IsReseated before after r.id (lane_state_of r) → IsDraft after new)
            → new.live ≤ (get_or drafts place d).live + 1 → AreBegun s (at + 1) (set drafts place new)
        begun_more new put count = record {
          number = r.id + 1;
          before = λ i q lt in_range. elim (cases_lt i at) [
            | inl less ↦ omega (arith, begun.before i q less in_range, this_above)
            | inr le ↦
                (let i_is : i ≡ at = omega (arith, lt, le) in
                let own : (get_or jobs i q).id ≡ r.id = ap (λ n. (get_or jobs n q).id) i_is ∙ own_number q in
                omega (arith, own))
          ];
          behind = λ i q le in_range.
              omega (arith, numbers_rise at i q (omega (arith, le)) in_range, own_number q);
          each = beside_set (IsBegun s begun.number at) (IsBegun s (r.id + 1) (at + 1)) names drafts place new begun.each position_in
              (λ i name e lt other is. record {
                draft = draft_as (below begun.number (seat s (get_or names i name))) (below (r.id + 1) (seat s (get_or names i name))) (get_or drafts i e) (elsewhere (get_or names i name) (λ same.
                    let in_names : i < length names = subst (λ n. i < n) begun.each.count lt in
                    other (of.only i in_names (sym (get_or_default names i name [] in_names) ∙ sym same)))) is.draft;
                few = omega (arith, is.few);
              })
              (λ name. subst (λ n. IsBegun s (r.id + 1) (at + 1) n new) (sym of.own ∙ get_or_default names place [] name of.in_range) (record {
                draft = put (below begun.number (seat s r.queue)) (below (r.id + 1) (seat s r.queue)) own_draft.draft (below_ended begun.number (seat s r.queue) r.id this_above) this_reseated;
                few = omega (arith, count, own_draft.few);
              }));
        }
