-- The lanes and the processing jobs.
use Rattle.std.proofs.Common.{◌≡◌, ℕ, ◌<◌, Bool, true, false, ◌&&◌, List, [], ◌∷◌, length, get_or, Option, Some, None, refl, sym, ap, subst, ◌∙◌, arith}
use Rattle.std.specs.Option.{is_some, option_map}
use Rattle.std.specs.List.{Contains, find, list_any}
use Rattle.std.specs.Cmp.Lexicographic.{bytes_decides}
use Rattle.std.specs.FinMap as finite
use Rattle.std.proofs.lemmas.Bool.{both_ways, false_from_ne_true, and_parts, and_from}
use Rattle.std.proofs.lemmas.List.Folds.{list_any_at}
use Rattle.spool_types.specs.Busy.{is_of}
use Rattle.spool_types.specs.Phases.{is_processing}
use Rattle.spool_types.specs.State.{State, Job, queue_at}
use Rattle.job_table.specs.Attempts.{HasNoProcessing, busy_of}
use Rattle.job_table.specs.Legal.{IsLegal}
use Rattle.job_table.specs.Lanes.{seat, IsLane, AreLanes}
use Rattle.job_table.specs.declared.lane.Lane.{Lane}
use Rattle.job_table.specs.declared.lane.LaneState.TheVariants.{Processing}
use Rattle.job_table.proofs.Choice.{value_there, there_value, passing}
use Rattle.job_table.proofs.Names.{name_there}
use Rattle.job_table.proofs.Next.{found, unfound}
use Rattle.job_table.proofs.Seats.{seat_here, seat_found, processing_phase, processing_state}

abbrev pub is_busy_of : List ℕ → Job → Bool
is_busy_of name r = is_of name r && is_processing r.phase

module _ (s : State) (legal : IsLegal s) (name : List ℕ) where
  abbrev jobs : List Job
  jobs = finite.values s.jobs

  -- The processing job of a queue is the one in its lane.
  module _ (lane : Lane) (is : IsLane (seat s name) lane) where
    pub lane_found : (r : Job) → Contains jobs r → is_busy_of name r ≡ true → lane.processing ≡ Some r.id
    lane_found r there busy =
        let parts = and_parts (is_of name r) (is_processing r.phase) busy in
        is.found r.id (seat_here s name r.id r (there_value s legal r there) ((bytes_decides r.queue name).0 parts.0) ∙ processing_state r r.phase parts.1)

    pub found_lane : (k : ℕ) → lane.processing ≡ Some k → (r : Job) × Contains jobs r × (is_busy_of name r ≡ true)
    found_lane k at =
        let own = seat_found s name k Processing (is.processing k at) refl in
        let r = own.0 in
        (r, value_there s k r own.1, and_from (is_of name r) (is_processing r.phase) ((bytes_decides r.queue name).1 own.2) (processing_phase r r.phase own.3))

    pub lane_busy : lane.processing ≡ busy_of s name
    lane_busy = by_found (find (is_busy_of name) jobs) refl
      where
        none_found : find (is_busy_of name) jobs ≡ None → (o : Option ℕ) → lane.processing ≡ o → o ≡ None
        none_found none None at = refl
        none_found none (Some k) at =
            let own = found_lane k at in
            absurd (both_ways _ (unfound (is_busy_of name) jobs own.0 own.1 none) own.2)

        by_found : (o : Option Job) → find (is_busy_of name) jobs ≡ o → lane.processing ≡ option_map (λ (r : Job). r.id) o
        by_found None none = none_found none lane.processing refl
        by_found (Some r) some =
            let own = found (is_busy_of name) jobs r some in
            lane_found r own.0 own.1

  -- A queue that does not exist has none.
  pub none_busy : queue_at s name ≡ None → None ≡ busy_of s name
  none_busy absent = by_found (find (is_busy_of name) jobs) refl
    where
      by_found : (o : Option Job) → find (is_busy_of name) jobs ≡ o → None ≡ option_map (λ (r : Job). r.id) o
      by_found None none = refl
      by_found (Some r) some =
          let own = found (is_busy_of name) jobs r some in
          let parts = and_parts (is_of name r) (is_processing r.phase) own.1 in
          let queue : queue_at s r.queue ≡ None = ap (queue_at s) ((bytes_decides r.queue name).0 parts.0) ∙ absent in
          let there : is_some (queue_at s r.queue) ≡ true = (legal.jobs r.id r (there_value s legal r own.0)).queue in
          absurd (both_ways _ (ap is_some queue) there)

some_lane : (lanes : List Lane) (i : ℕ) → i < length lanes → Lane
some_lane [] i lt = absurd (omega (arith, lt))
some_lane (l ∷ lanes) i lt = l

-- A test of all lanes shows whether a job is processing.
module _ (s : State) (legal : IsLegal s) (v : ℕ) (lanes : List Lane) (are : AreLanes s v lanes) where
  abbrev is_taken : Lane → Bool
  is_taken lane = is_some lane.processing

  pub none_taken : list_any is_taken lanes ≡ false → HasNoProcessing s
  none_taken none j r there = false_from_ne_true (is_processing r.phase) (λ busy.
      let place = name_there s r.queue (legal.jobs j r there).queue in
      let within : place.0 < length lanes = subst (λ n. place.0 < n) (sym are.count) place.1 in
      let d = some_lane lanes place.0 within in
      let own : IsLane (seat s r.queue) (get_or lanes place.0 d) = subst (λ name. IsLane (seat s name) (get_or lanes place.0 d)) place.2 (are.each place.0 r.queue d within).lane in
      let taken : (get_or lanes place.0 d).processing ≡ Some j = own.found j (seat_here s r.queue j r there refl ∙ processing_state r r.phase busy) in
      both_ways _ none (list_any_at is_taken lanes place.0 d within (ap is_some taken)))

  pub some_taken : list_any is_taken lanes ≡ true → ¬ (HasNoProcessing s)
  some_taken some idle =
      let lane = passing is_taken lanes some in
      by_processing (get_or (finite.keys s.queues) lane.1.0 []) lane.0 (subst (λ l. IsLane (seat s (get_or (finite.keys s.queues) lane.1.0 [])) l) lane.1.2 (are.each lane.1.0 [] lane.0 lane.1.1).lane) (lane.0).processing refl lane.2
    where
      by_processing : (name : List ℕ) (l : Lane) → IsLane (seat s name) l → (o : Option ℕ) → l.processing ≡ o → is_some l.processing ≡ true → ⊥
      by_processing name l own None at taken = both_ways _ (ap is_some at) taken
      by_processing name l own (Some k) at taken =
          let busy = seat_found s name k Processing (own.processing k at) refl in
          both_ways _ (idle k busy.0 busy.1) (processing_phase busy.0 (busy.0).phase busy.3)
