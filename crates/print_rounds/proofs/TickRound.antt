-- A round is the tick whose checks all report an end.
use Rattle.std.proofs.Common.{◌≡◌, ℕ, Bool, true, false, cond, ◌||◌, ◌==◌, List, [], ◌∷◌, length, Option, Some, None, Result, Ok, Err, refl, sym, ap, subst, ◌∙◌}
use Rattle.std.specs.Cmp.{nat_cmp_total, unsigned_tied}
use Rattle.std.specs.FinMap as finite
use Rattle.std.proofs.lemmas.Bool.{eqb-true}
use Rattle.spool_types.specs.declared.event.Event.TheVariants.{Stage}
use Rattle.spool_types.specs.declared.rows.QueueRow.{QueueRow}
use Rattle.spool_types.specs.State.{State, Job, job_at, queue_at}
use Rattle.job_table.specs.Attempts.{next_of, started}
use Rattle.job_table.specs.EventChanges.{change_found}
use Rattle.job_table.specs.Legal.{IsLegal}
use Rattle.job_table.specs.Step.{reply_to}
use Rattle.filter_args.specs.declared.place.Place.{Place}
use Rattle.child_pipeline.specs.Finishes.{kept}
use Rattle.child_pipeline.specs.StageSlots.{Slots, IsTicketless, slot_in, end_in, with_progress, progress_after, order_in, is_ready}
use Rattle.child_pipeline.specs.ChildTraces.{ChildTrace, starts_next, started_by, first_finish, first_look, later_looks, is_in}
use Rattle.child_pipeline.specs.declared.order.ChildFault.{ChildFault}
use Rattle.child_pipeline.specs.declared.order.Order.{Order}
use Rattle.child_pipeline.specs.declared.runner.Progress.{Progress}
use Rattle.child_pipeline.specs.declared.runner.Progress.TheVariants.{Ready, Running, Ended}
use Rattle.child_pipeline.specs.declared.runner.Slot.{Slot}
use Rattle.print_rounds.specs.Choice.{busy_jobs, slots_for}
use Rattle.print_rounds.specs.RunStates.{is_silent}
use Rattle.print_rounds.specs.Finished.{HasNoneRunning}
use Rattle.print_rounds.specs.StageChecks.{runs, free_queues}
use Rattle.print_rounds.specs.RoundScript.{Play, plays, play_start, start_of, play_launch, launched_for, launched_in, launched_by, launched_on, play_end, ended_if, waited, waited_by, current_slots, play_from, fresh_play, play_busy, round_of}
use Rattle.print_rounds.specs.RoundTicks.{ripe_by, looked_by, ripe_among, looked_among, play_ripe, play_tended, play_drop, drop_strays, tend_queues, tick_of}
use Rattle.print_rounds.proofs.EndLaws.{SameBut, get_other, moved_same, not_first, not_second, reply_rests, turned}
use Rattle.print_rounds.proofs.FreeLaws.{current_rests}
use Rattle.print_rounds.proofs.LaunchLaws.{HasNumbers, due_own}
use Rattle.print_rounds.proofs.WaitLaws.{idle_current, all_free, all_tended, all_idle, no_strays}

-- ## Checks

-- If no answers of checks are listed, each check reports an end and changes nothing.
module _ (t : ChildTrace) (none : t.looks ≡ []) where
  each_ripe : (b : Bool) → ripe_by b t ≡ true
  each_ripe true = ap first_look none
  each_ripe false = refl

  each_same : (b : Bool) → looked_by b t ≡ t
  each_same true = ap (λ ls. record t { looks = ls }) (ap later_looks none ∙ sym none)
  each_same false = refl

  all_looked : (slots : Slots) (js : List ℕ) → looked_among slots t js ≡ t
  all_looked slots [] = refl
  all_looked slots (j ∷ js) = ap (λ u. looked_among slots u js) (each_same (runs slots j)) ∙ all_looked slots js

  all_ripe : (slots : Slots) (js : List ℕ) → ripe_among slots t js ≡ js
  all_ripe slots [] = refl
  all_ripe slots (j ∷ js) =
      let b = runs slots j in
      ap (λ c. cond c (j ∷ ripe_among slots (looked_by b t) js) (ripe_among slots (looked_by b t) js)) (each_ripe b)
      ∙ ap (λ u. j ∷ ripe_among slots u js) (each_same b)
      ∙ ap (λ ks. j ∷ ks) (all_ripe slots js)

-- ## Starts of jobs

-- Before the stages are started: jobs have their numbers, no child runs, and no answers of checks are listed.
record IsStill (p : Play) : Type 0 where
  pub numbers : HasNumbers p.state
  pub rests : HasNoneRunning p.slots
  pub looks : p.told.looks ≡ []

-- A start does not change the numbers.
started_numbers : (s : State) → HasNumbers s → (j : ℕ) (o : Option Job) → job_at s j ≡ o → HasNumbers (change_found s j started o)
started_numbers s numbers j None there = numbers
started_numbers s numbers j (Some r) there = λ k q is. by_job k q is (k == j) refl
  where
    row : (k : ℕ) (b : Bool) → (k == j) ≡ b → finite.get (finite.insert s.jobs j (started r)) k ≡ cond b (Some (started r)) (job_at s k)
    row k b is = finite.get-insert nat_cmp_total s.jobs j (started r) k ∙ ap (λ b. cond b (Some (started r)) (job_at s k)) (unsigned_tied k j ∙ is)

    id_of : ℕ → Option Job → ℕ
    id_of d None = d
    id_of d (Some x) = x.id

    by_job : (k : ℕ) (q : Job) → finite.get (finite.insert s.jobs j (started r)) k ≡ Some q → (b : Bool) → (k == j) ≡ b → q.id ≡ k
    by_job k q is true same = ap (id_of q.id) (sym is ∙ row k true same) ∙ numbers j r there ∙ sym (eqb-true k j same)
    by_job k q is false other = numbers k q (sym (row k false other) ∙ is)

start_still : (p : Play) (o : Option ℕ) → IsStill p → IsStill (start_of p o)
start_still p None still = still
start_still p (Some j) still = record {
  numbers = started_numbers p.state still.numbers j (job_at p.state j) refl;
  rests = still.rests;
  looks = still.looks;
}

starts_still : (p : Play) (names : List (List ℕ)) → IsStill p → IsStill (plays play_start p names)
starts_still p [] still = still
starts_still p (name ∷ names) still = starts_still (play_start p name) names (start_still p (next_of p.state name) still)

-- ## Starts of stages

-- A start makes no check.
start_looks : (t : ChildTrace) (order : Order) (answers : List (Result (Unit {0}) ChildFault)) → (started_by t order answers).looks ≡ t.looks
start_looks t order [] = refl
start_looks t order (Ok done ∷ rest) = refl
start_looks t order (Err fault ∷ rest) = refl

-- It changes only the slot of its job, and no row.
record IsLaunched (p : Play) (j : ℕ) (q : Play) : Type 0 where
  pub state : q.state ≡ p.state
  pub looks : q.told.looks ≡ p.told.looks
  pub same : SameBut j p.slots q.slots

module _ (place : Place) (documents : ℕ → List ℕ) where
  launch_on : (p : Play) (j : ℕ) (r : Job) (q : QueueRow) (own : Slots) → r.id ≡ j → slots_for p.slots r ≡ Some own → IsLaunched p j (launched_on place documents p r q own)
  launch_on p j r q own id due = subst (λ i. IsLaunched p i (launched_on place documents p r q own)) id (record {
    state = refl;
    looks = start_looks p.told (order_in place own r q (documents r.id)) p.told.starts;
    same = λ k other. get_other own r.id k (with_progress (slot_in own r.id) (progress_after (starts_next p.told) (length p.told.orders))) other ∙ (due_own p.slots r own due).same k other;
  })

  nothing_launched : (p : Play) (j : ℕ) → IsLaunched p j p
  nothing_launched p j = record { state = refl; looks = refl; same = λ k other. refl }

  one_launched : (p : Play) → HasNumbers p.state → (j : ℕ) → IsLaunched p j (play_launch place documents p j)
  one_launched p numbers j = by_row (job_at p.state j) refl
    where
      by_own : (r : Job) (q : QueueRow) → r.id ≡ j → (o : Option Slots) → slots_for p.slots r ≡ o → IsLaunched p j (launched_by place documents p r q o)
      by_own r q id None is = nothing_launched p j
      by_own r q id (Some own) is = launch_on p j r q own id is

      by_queue : (r : Job) → r.id ≡ j → (o : Option QueueRow) → IsLaunched p j (launched_in place documents p r o)
      by_queue r id None = nothing_launched p j
      by_queue r id (Some q) = by_own r q id (slots_for p.slots r) refl

      by_row : (o : Option Job) → job_at p.state j ≡ o → IsLaunched p j (launched_for place documents p o)
      by_row None is = nothing_launched p j
      by_row (Some r) is = by_queue r (numbers j r is) (queue_at p.state r.queue)

  -- After the starts, only children of these jobs may run.
  record AreLaunched (p : Play) (js : List ℕ) (q : Play) : Type 0 where
    pub looks : q.told.looks ≡ p.told.looks
    pub others : (k : ℕ) → is_in k js ≡ false → finite.get q.slots k ≡ finite.get p.slots k

  all_launched : (p : Play) → HasNumbers p.state → (js : List ℕ) → AreLaunched p js (plays (play_launch place documents) p js)
  all_launched p numbers [] = record { looks = refl; others = λ k out. refl }
  all_launched p numbers (j ∷ js) =
      let one = one_launched p numbers j in
      let more = all_launched (play_launch place documents p j) (subst HasNumbers (sym one.state) numbers) js in
      record {
        looks = more.looks ∙ one.looks;
        others = λ k out. more.others k (not_second (j == k) (is_in k js) out) ∙ one.same k (turned j k (not_first (j == k) (is_in k js) out));
      }

-- ## Ends

silent_rests : (o : Option (Slot ℕ)) → is_silent o ≡ true → IsTicketless o
silent_rests None is = tt
silent_rests (Some slot) is = λ n runs. let both : true ≡ false = sym is ∙ ap is_ready runs in absurd (cc)

waited_same : (p : Play) (j : ℕ) (v : Progress ℕ) → SameBut j p.slots (waited_by p j v).slots
waited_same p j (Ready input) = λ k other. refl
waited_same p j (Running n) = λ k other. get_other p.slots j k (with_progress (slot_in p.slots j) (Ended (kept (first_finish p.told.finishes)))) other
waited_same p j (Ended finish) = λ k other. refl

-- After its end a job has no running child, and the slots of all others are unchanged.
one_rests : (p : Play) (j : ℕ) → SameBut j p.slots (play_end p j).slots × IsTicketless (finite.get (play_end p j).slots j)
one_rests p j = by_silence (is_silent (finite.get p.slots j)) refl
  where
    by_silence : (b : Bool) → is_silent (finite.get p.slots j) ≡ b → SameBut j p.slots (ended_if p j b).slots × IsTicketless (finite.get (ended_if p j b).slots j)
    by_silence true is = (λ k other. refl, silent_rests (finite.get p.slots j) is)
    by_silence false is =
        let q : Play = waited p j in
        let reply = reply_to q.state (Stage (end_in q.slots j)) in (
          λ k other. moved_same q.slots j (Ok reply) k other ∙ waited_same p j (slot_in p.slots j).progress k other,
          reply_rests q.slots j reply,
        )

all_rest_then : (p : Play) (js : List ℕ) (k : ℕ) → (is_in k js ≡ false → IsTicketless (finite.get p.slots k)) → IsTicketless (finite.get (plays play_end p js).slots k)
all_rest_then p [] k rests = rests refl
all_rest_then p (j ∷ js) k rests = all_rest_then (play_end p j) js k (λ out. by_job (j == k) refl out)
  where
    by_job : (b : Bool) → (j == k) ≡ b → is_in k js ≡ false → IsTicketless (finite.get (play_end p j).slots k)
    by_job true is out = subst (λ i. IsTicketless (finite.get (play_end p j).slots i)) (eqb-true j k is) (one_rests p j).1
    by_job false is out = subst IsTicketless (sym ((one_rests p j).0 k (turned j k is))) (rests (ap (λ b. b || is_in k js) is ∙ out))

-- ## The whole

module _ (place : Place) (documents : ℕ → List ℕ) where
  -- After the starts of jobs.
  still_same : (p : Play) (names : List (List ℕ)) → IsStill p → drop_strays (tend_queues place documents p names) ≡ play_busy place documents p names
  still_same p names still =
      let js = busy_jobs p.state names in
      let q : Play = plays (play_launch place documents) p js in
      let last : Play = plays play_end q js in
      let launched = all_launched place documents p still.numbers js in
      let none : q.told.looks ≡ [] = launched.looks ∙ still.looks in
      let rests : HasNoneRunning last.slots = λ k. all_rest_then q js k (λ out. subst IsTicketless (sym (launched.others k out)) (still.rests k)) in
      ap (λ ks. drop_strays (play_tended place documents p ks)) (all_tended p.state p.slots still.rests names)
      ∙ ap (λ ks. drop_strays (play_ripe (plays (play_launch place documents) p ks) js)) (all_idle p.state p.slots still.rests js)
      ∙ ap (λ t. drop_strays (plays play_end (record q { told = t }) (ripe_among q.slots q.told js))) (all_looked q.told none q.slots js)
      ∙ ap (λ ks. drop_strays (plays play_end q ks)) (all_ripe q.told none q.slots js)
      ∙ ap (λ ks. plays play_drop last ks) (no_strays last.state last.slots rests)

  -- If no child runs and each check reports an end, the tick is the round.
  pub round_is_tick : (s : State) (slots : Slots) (t : ChildTrace) → IsLegal s → HasNoneRunning slots → t.looks ≡ [] → tick_of place documents s slots t ≡ round_of place documents s slots t
  round_is_tick s slots t legal rests looks =
      let names = finite.keys s.queues in
      let now : Slots = current_slots s slots in
      let still : HasNoneRunning now = current_rests s slots rests in
      ap (λ m. drop_strays (tend_queues place documents (plays play_start (play_from s m t) (free_queues s m)) names)) (idle_current s slots rests)
      ∙ ap (λ ns. drop_strays (tend_queues place documents (plays play_start (play_from s now t) ns) names)) (all_free s now still)
      ∙ still_same (plays play_start (fresh_play s slots t) names) names
      (starts_still (fresh_play s slots t) names (record { numbers = λ j r there. (legal.jobs j r there).id; rests = still; looks = looks }))
