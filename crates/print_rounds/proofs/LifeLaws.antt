-- In a StageHistory no stage of an attempt is started twice, and the calls of an engine are the calls of a life.
use Rattle.std.proofs.Common.{◌≡◌, ◌⊎◌, inl, inr, ◌||◌, ◌&&◌, ◌==◌, ℕ, Bool, not, true, false, List, [], ◌∷◌, ◌++◌, Option, None, Some, refl, sym, ap, subst, ◌∙◌, append-nil, append_assoc}
use Rattle.std.specs.Ordering.{nat_cmp}
use Rattle.std.specs.FinMap as finite
use Rattle.std.proofs.lemmas.List.{append_cancel_left, map-append}
use Rattle.std.proofs.lemmas.Bool.{both_ways, or_parts, and_parts, and_from, eqb-true, eq-eqb}
use Rattle.spool_types.specs.declared.event.Event.{Event}
use Rattle.spool_types.specs.declared.phase.Phase.{Phase}
use Rattle.spool_types.specs.declared.phase.Phase.TheVariants.{Incoming, Waiting, Processing, Completed, Canceled, Aborted}
use Rattle.spool_types.specs.Phases.{is_processing}
use Rattle.spool_types.specs.State.{State, Job, job_at}
use Rattle.job_table.specs.Attempts.{HasNoProcessing, is_in_stage}
use Rattle.job_table.specs.EventFold.{after_all}
use Rattle.job_table.specs.Legal.{IsLegal}
use Rattle.job_table.specs.Stages.{Key, IsIn, IsSpent}
use Rattle.job_table.specs.TableCalls.{IsAmong, AreOnce}
use Rattle.job_table.specs.TableVersions.{raised}
use Rattle.child_pipeline.specs.StageSlots.{Slots, is_ready}
use Rattle.child_pipeline.specs.ChildTraces.{ChildTrace}
use Rattle.child_pipeline.specs.declared.order.Placed.{Placed}
use Rattle.child_pipeline.specs.declared.runner.Progress.{Progress}
use Rattle.child_pipeline.specs.declared.runner.Progress.TheVariants.{Ready, Running, Ended}
use Rattle.child_pipeline.specs.declared.runner.Slot.{Slot}
use Rattle.print_rounds.specs.RunStates.{RunState}
use Rattle.print_rounds.specs.StageLives.{Keys, Has, StageCall, IsStageCallOf, AreStageCallsOn, Life, IsLife, last_table, end_of, AreLives, IsStageHistory, keys_of_calls, keys_of_life, keys_of, is_in_of, is_begun_of, is_held, stage_call_of, AreStageCalls, stage_calls_of, life_of, last_left}
use Rattle.print_rounds.specs.StageHistory.{IsBegunSlot, IsHeld, IsStageCall, key_in, keys_in}
use Rattle.print_rounds.proofs.HoldLaws.{Laws}
use Rattle.print_rounds.proofs.KeyLaws.{among_either, once_both}
use Rattle.print_rounds.proofs.PrefixLaws.{after_both}

none_among : (ks : List Key) (k : Key) → ks ≡ [] → IsAmong ks k → ⊥
none_among ks k none among = subst (λ l. IsAmong l k) none among

-- A stage that the table has its job in, or that is spent.
abbrev Came : State → Key → Type 0
Came s k = IsIn s k ⊎ IsSpent s k

module _ (laws : Laws) where
  -- ## One call

  came_on : (s : State) (k : Key) (es : List Event) → IsLegal s → Came s k → Came (after_all s es) k
  came_on s k es legal (inl now) = laws.left s k es legal now
  came_on s k es legal (inr gone) = inr (laws.spent s k es legal gone)

  -- The tables of a call are compared in the newest version.
  module _ (t : StageCall) (turn : IsStageCallOf t) where
    abbrev before : State
    before = raised t.table

    legal_before : IsLegal before
    legal_before = laws.raised_legal t.table turn.legal

    legal_then : IsLegal (raised t.table_after)
    legal_then = subst IsLegal (sym turn.table) (laws.legal before t.more legal_before)

    -- A stage that is spent before the call is not started in it.
    not_again : (k : Key) → IsSpent t.table k → IsAmong t.keys k → ⊥
    not_again k gone among =
        let r = turn.reached k among in
        laws.either (after_all before r.first) k (laws.legal before r.first legal_before) r.reached (laws.spent before k r.first legal_before gone)

    still_spent : (k : Key) → IsSpent t.table k → IsSpent t.table_after k
    still_spent k gone = subst (λ s. IsSpent s k) (sym turn.table) (laws.spent before k t.more legal_before gone)

    still_came : (k : Key) → Came before k → Came (raised t.table_after) k
    still_came k came = subst (λ s. Came s k) (sym turn.table) (came_on before k t.more legal_before came)

    -- A stage that the call starts has come by its end.
    has_come : (k : Key) → IsAmong t.keys k → Came (raised t.table_after) k
    has_come k among =
        let r = turn.reached k among in
        subst (λ s. Came s k) (sym (turn.table ∙ ap (after_all before) r.split ∙ after_both before r.first r.rest))
        (came_on (after_all before r.first) k r.rest (laws.legal before r.first legal_before) (inl r.reached))

    -- A stage that was held, spent or started by the call is held or spent after it, unless it is over.
    settled_then : t.over ≡ false → (k : Key) → Has t.held k ⊎ IsSpent t.table k → Has t.held_after k ⊎ IsSpent t.table_after k
    settled_then lives k (inl held) = turn.settled lives k (inl held)
    settled_then lives k (inr gone) = inr (still_spent k gone)

  -- ## The calls of a life

  -- The stage is held or spent, unless a call was over.
  abbrev IsDone : State → Keys → Bool → Key → Type 0
  IsDone s held over k = over ≡ false → Has held k ⊎ IsSpent s k

  -- No call starts a stage that is held or spent before it.
  none_again : (ts : List StageCall) (s : State) (held : Keys) (over : Bool) → AreStageCallsOn s held over ts → (k : Key) → IsDone s held over k → IsAmong (keys_of_calls ts) k → ⊥
  none_again [] s held over turns k done among = among
  none_again (t ∷ ts) s held over (same_table, same_held, turn, quiet, turns) k done among = elim (among_either t.keys (keys_of_calls ts) k among) [
    | inl now ↦ here over refl now
    | inr later ↦ none_again ts t.table_after t.held_after (over || t.over) turns k then later
  ]
    where
      at_start : over ≡ false → Has t.held k ⊎ IsSpent t.table k
      at_start lives = elim (done lives) [
        | inl kept ↦ inl (subst (λ h. Has h k) (sym same_held) kept)
        | inr gone ↦ inr (subst (λ u. IsSpent u k) (sym same_table) gone)
      ]

      here : (b : Bool) → over ≡ b → IsAmong t.keys k → ⊥
      here true ended now = none_among t.keys k (quiet ended) now
      here false lives now = elim (at_start lives) [
        | inl kept ↦ turn.outside k now kept
        | inr gone ↦ not_again t turn k gone now
      ]

      then : IsDone t.table_after t.held_after (over || t.over) k
      then lives = let both = or_parts over t.over lives in settled_then t turn both.1 k (at_start both.0)

  -- No call starts a stage that an earlier one has started.
  turns_once : (ts : List StageCall) (s : State) (held : Keys) (over : Bool) → AreStageCallsOn s held over ts → AreOnce (keys_of_calls ts)
  turns_once [] s held over turns = tt
  turns_once (t ∷ ts) s held over (same_table, same_held, turn, quiet, turns) =
      once_both t.keys (keys_of_calls ts) turn.distinct (turns_once ts t.table_after t.held_after (over || t.over) turns)
      (λ k now later. none_again ts t.table_after t.held_after (over || t.over) turns k (λ lives. turn.settled (or_parts over t.over lives).1 k (inr now)) later)

  turns_legal : (ts : List StageCall) (s : State) (held : Keys) (over : Bool) → AreStageCallsOn s held over ts → IsLegal (raised s) → IsLegal (raised (last_table s ts))
  turns_legal [] s held over turns legal = legal
  turns_legal (t ∷ ts) s held over (same_table, same_held, turn, quiet, turns) legal = turns_legal ts t.table_after t.held_after (over || t.over) turns (legal_then t turn)

  came_through : (ts : List StageCall) (s : State) (held : Keys) (over : Bool) → AreStageCallsOn s held over ts → (k : Key) → Came (raised s) k → Came (raised (last_table s ts)) k
  came_through [] s held over turns k came = came
  came_through (t ∷ ts) s held over (same_table, same_held, turn, quiet, turns) k came =
      came_through ts t.table_after t.held_after (over || t.over) turns k (still_came t turn k (subst (λ u. Came (raised u) k) (sym same_table) came))

  came_in : (ts : List StageCall) (s : State) (held : Keys) (over : Bool) → AreStageCallsOn s held over ts → (k : Key) → IsAmong (keys_of_calls ts) k → Came (raised (last_table s ts)) k
  came_in [] s held over turns k among = absurd among
  came_in (t ∷ ts) s held over (same_table, same_held, turn, quiet, turns) k among = elim (among_either t.keys (keys_of_calls ts) k among) [
    | inl now ↦ came_through ts t.table_after t.held_after (over || t.over) turns k (has_come t turn k now)
    | inr later ↦ came_in ts t.table_after t.held_after (over || t.over) turns k later
  ]

  -- ## A life

  module _ (l : Life) (life : IsLife l) where
    abbrev first : StageCall
    first = l.first

    life_once : AreOnce (keys_of_life l)
    life_once = once_both first.keys (keys_of_calls l.later) (life.turn).distinct (turns_once l.later first.table_after first.held_after first.over life.turns)
        (λ k now later. none_again l.later first.table_after first.held_after first.over life.turns k (λ lives. (life.turn).settled lives k (inr now)) later)

    life_legal : IsLegal (raised (end_of l))
    life_legal = turns_legal l.later first.table_after first.held_after first.over life.turns (legal_then first life.turn)

    -- A stage that the life has started has come by its end.
    life_came : (k : Key) → IsAmong (keys_of_life l) k → Came (raised (end_of l)) k
    life_came k among = elim (among_either first.keys (keys_of_calls l.later) k among) [
      | inl now ↦ came_through l.later first.table_after first.held_after first.over life.turns k (has_come first life.turn k now)
      | inr later ↦ came_in l.later first.table_after first.held_after first.over life.turns k later
    ]

    -- A stage that came before the life is spent at its start, since nothing is processing then.
    spent_first : (k : Key) → Came (raised first.table) k → IsSpent first.table k
    spent_first k (inl now) = absurd (both_ways _ (life.idle k.job now.row now.there) (ap is_processing now.phase))
    spent_first k (inr gone) = gone

    -- Such a stage is not started in the life.
    life_none : (k : Key) → Came (raised first.table) k → IsAmong (keys_of_life l) k → ⊥
    life_none k came among = elim (among_either first.keys (keys_of_calls l.later) k among) [
      | inl now ↦ not_again first life.turn k (spent_first k came) now
      | inr later ↦ none_again l.later first.table_after first.held_after first.over life.turns k (λ lives. inr (still_spent first life.turn k (spent_first k came))) later
    ]

    life_through : (k : Key) → Came (raised first.table) k → Came (raised (end_of l)) k
    life_through k came = came_through l.later first.table_after first.held_after first.over life.turns k (still_came first life.turn k came)

  -- ## A history

  lives_none : (ls : List Life) (s : State) → IsLegal (raised s) → AreLives s ls → (k : Key) → Came (raised s) k → IsAmong (keys_of ls) k → ⊥
  lives_none [] s legal lives k came among = among
  lives_none (l ∷ ls) s legal (life, further, lives) k came among =
      let at_first : Came (raised (l.first).table) k = subst (λ u. Came u k) (sym further.1) (came_on (raised s) k further.0 legal came) in
      elim (among_either (keys_of_life l) (keys_of ls) k among) [
        | inl now ↦ life_none l life k at_first now
        | inr later ↦ lives_none ls (end_of l) (life_legal l life) lives k (life_through l life k at_first) later
      ]

  lives_once : (ls : List Life) (s : State) → AreLives s ls → AreOnce (keys_of ls)
  lives_once [] s lives = tt
  lives_once (l ∷ ls) s (life, further, lives) =
      once_both (keys_of_life l) (keys_of ls) (life_once l life) (lives_once ls (end_of l) lives)
      (λ k now later. lives_none ls (end_of l) (life_legal l life) lives k (life_came l life k now) later)

  pub world_once : (ls : List Life) → IsStageHistory ls → AreOnce (keys_of ls)
  world_once [] world = tt
  world_once (l ∷ ls) (life, lives) =
      once_both (keys_of_life l) (keys_of ls) (life_once l life) (lives_once ls (end_of l) lives)
      (λ k now later. lives_none ls (end_of l) (life_legal l life) lives k (life_came l life k now) later)

-- ## Calls

-- The stage of a phase.
in_stage : (attempt stage : ℕ) (p : Phase) → is_in_stage attempt stage p ≡ true → (stages : ℕ) × (p ≡ Processing attempt stage stages)
in_stage attempt stage (Incoming hold) is = absurd (cc)
in_stage attempt stage (Waiting hold not_before first) is = absurd (cc)
in_stage attempt stage (Processing a st stages) is =
    let both = and_parts (a == attempt) (st == stage) is in
    (stages, ap (λ n. Processing n st stages) (eqb-true a attempt both.0) ∙ ap (λ n. Processing attempt n stages) (eqb-true st stage both.1))
in_stage attempt stage Completed is = absurd (cc)
in_stage attempt stage Canceled is = absurd (cc)
in_stage attempt stage (Aborted reason) is = absurd (cc)

of_stage : (attempt stage stages : ℕ) → is_in_stage attempt stage (Processing attempt stage stages) ≡ true
of_stage attempt stage stages = and_from (attempt == attempt) (stage == stage) (eq-eqb attempt attempt refl) (eq-eqb stage stage refl)

module _ (s : State) (slots : Slots) (k : Key) where
  in_from : (o : Option Job) → job_at s k.job ≡ o → is_in_of k o ≡ true → IsIn s k
  in_from None at is = absurd (cc)
  in_from (Some r) at is = let found = in_stage k.attempt k.stage r.phase is in record { row = r; stages = found.0; there = at; phase = found.1 }

  off : (p : Progress ℕ) → not (is_ready p) ≡ true → is_ready p ≡ false
  off (Ready input) is = absurd (cc)
  off (Running n) is = refl
  off (Ended finish) is = refl

  begun_from : (o : Option (Slot ℕ)) → finite.get slots k.job ≡ o → is_begun_of k o ≡ true → IsBegunSlot slots k
  begun_from None at is = absurd (cc)
  begun_from (Some slot) at is =
      let first = and_parts (slot.attempt == k.attempt && slot.stage == k.stage) (not (is_ready slot.progress)) is in
      let both = and_parts (slot.attempt == k.attempt) (slot.stage == k.stage) first.0 in
      record { slot = slot; there = at; attempt = eqb-true slot.attempt k.attempt both.0; stage = eqb-true slot.stage k.stage both.1; begun = off slot.progress first.1 }

  -- The test whether a stage is held is correct.
  held_from : Has (is_held s slots) k → IsHeld s slots k
  held_from is =
      let both = and_parts (is_in_of k (job_at s k.job)) (is_begun_of k (finite.get slots k.job)) is in
      (in_from (job_at s k.job) refl both.0, begun_from (finite.get slots k.job) refl both.1)

  to_held : IsHeld s slots k → Has (is_held s slots) k
  to_held (now, kept) =
      and_from (is_in_of k (job_at s k.job)) (is_begun_of k (finite.get slots k.job))
      (ap (is_in_of k) now.there ∙ ap (is_in_stage k.attempt k.stage) now.phase ∙ of_stage k.attempt k.stage now.stages)
      (ap (is_begun_of k) kept.there
      ∙ and_from (kept.slot.attempt == k.attempt && kept.slot.stage == k.stage) (not (is_ready kept.slot.progress))
      (and_from (kept.slot.attempt == k.attempt) (kept.slot.stage == k.stage) (eq-eqb _ _ kept.attempt) (eq-eqb _ _ kept.stage)) (ap not kept.begun))

-- A call of an engine is a call of the table.
call_turn : {D : Type 0} (t : ChildTrace) (old new : RunState D) (more : List Event) (call : IsStageCall t old more new) → IsStageCallOf (stage_call_of old more new (keys_in call.orders))
call_turn t old new more call = record {
  legal = call.turn.legal;
  accepted = call.turn.accepted;
  table = call.turn.table;
  distinct = call.turn.distinct;
  outside = λ k among held. call.turn.outside k among (held_from old.spool.state old.slots k held);
  reached = call.turn.reached;
  settled = λ lives k some. elim (call.turn.settled lives k (elim some [
    | inl held ↦ inl (held_from old.spool.state old.slots k held)
    | inr among ↦ inr among
  ])) [
    | inl held ↦ inl (to_held new.spool.state new.slots k held)
    | inr gone ↦ inr gone
  ];
}

-- Consecutive calls of an engine are calls of the table.
calls_turns : {D : Type 0} (cs : List (List Event × RunState D)) (t : ChildTrace) (old : RunState D) (calls : AreStageCalls t old cs) → AreStageCallsOn old.spool.state (is_held old.spool.state old.slots) old.spool.dead (stage_calls_of t old cs calls)
calls_turns [] t old calls = tt
calls_turns (c ∷ cs) t old calls =
    let call = calls.0 in (
      refl,
      refl,
      call_turn t old c.1 c.0 call,
      λ died. ap keys_in (call.after_over died).0,
      subst (λ b. AreStageCallsOn (c.1).spool.state (is_held (c.1).spool.state (c.1).slots) b (stage_calls_of call.now c.1 cs calls.1)) (sym (dead_on old.spool.dead refl (call.after_over)))
          (calls_turns cs call.now c.1 calls.1),
    )
  where
    dead_on : (b : Bool) → old.spool.dead ≡ b → (old.spool.dead ≡ true → (calls.0.orders ≡ []) × ((c.1).spool.dead ≡ true)) → (b || (c.1).spool.dead) ≡ (c.1).spool.dead
    dead_on true died over = sym (over died).1
    dead_on false lives over = refl

-- No slot holds anything.
none_held : (s : State) (slots : Slots) → slots ≡ finite.empty → (k : Key) → Has (is_held s slots) k → ⊥
none_held s slots none k is = by_slot (finite.get slots k.job) (ap (λ (m : Slots). finite.get m k.job) none ∙ finite.get-empty nat_cmp k.job) (and_parts (is_in_of k (job_at s k.job)) (is_begun_of k (finite.get slots k.job)) is).1
  where
    by_slot : (o : Option (Slot ℕ)) → o ≡ None → is_begun_of k o ≡ true → ⊥
    by_slot None at begun = absurd (cc)
    by_slot (Some slot) at begun = absurd (cc)

-- So the calls are a life.
pub calls_life : {D : Type 0} (t : ChildTrace) (old : RunState D) (c : List Event × RunState D) (cs : List (List Event × RunState D)) (calls : AreStageCalls t old (c ∷ cs))
    → HasNoProcessing old.spool.state → old.slots ≡ finite.empty → IsLife (life_of t old c cs calls)
calls_life t old c cs calls idle none = record {
  idle = idle;
  none = none_held old.spool.state old.slots none;
  turn = call_turn t old c.1 c.0 calls.0;
  turns = calls_turns cs calls.0.now c.1 calls.1;
}

calls_end : {D : Type 0} (cs : List (List Event × RunState D)) (t : ChildTrace) (old : RunState D) (calls : AreStageCalls t old cs) → last_table old.spool.state (stage_calls_of t old cs calls) ≡ (last_left old cs).spool.state
calls_end [] t old calls = refl
calls_end (c ∷ cs) t old calls = calls_end cs calls.0.now c.1 calls.1

pub life_end : {D : Type 0} (t : ChildTrace) (old : RunState D) (c : List Event × RunState D) (cs : List (List Event × RunState D)) (calls : AreStageCalls t old (c ∷ cs)) → end_of (life_of t old c cs calls) ≡ (last_left c.1 cs).spool.state
life_end t old c cs calls = calls_end cs calls.0.now c.1 calls.1

-- The new orders of calls, and their stages.
abbrev HasOrders : {D : Type 0} → ChildTrace → List Key → RunState D → Type 0
HasOrders t keys last = (now : ChildTrace) × (last.told ≡ Some now) × (orders : List Placed) × (now.orders ≡ t.orders ++ orders) × (keys ≡ keys_in orders)

calls_orders : {D : Type 0} (cs : List (List Event × RunState D)) (t : ChildTrace) (old : RunState D) → old.told ≡ Some t → (calls : AreStageCalls t old cs) → HasOrders t (keys_of_calls (stage_calls_of t old cs calls)) (last_left old cs)
calls_orders [] t old tells calls = (t, tells, [], sym (append-nil t.orders), refl)
calls_orders (c ∷ cs) t old tells calls =
    let call = calls.0 in
    let (now, tells_then, rest, added, keys) = calls_orders cs call.now c.1 call.tells calls.1 in (
      now,
      tells_then,
      call.orders ++ rest,
      added ∙ ap (λ l. l ++ rest) call.added ∙ append_assoc t.orders call.orders rest,
      ap (λ l. keys_in call.orders ++ l) keys ∙ sym (map-append key_in call.orders rest),
    )

some_told : (x y : ChildTrace) → Some x ≡ Some y → x ≡ y
some_told x y e = cc

pub life_keys : {D : Type 0} (t : ChildTrace) (old : RunState D) (c : List Event × RunState D) (cs : List (List Event × RunState D)) (calls : AreStageCalls t old (c ∷ cs)) → old.told ≡ Some t
    → (now : ChildTrace) (orders : List Placed) → (last_left c.1 cs).told ≡ Some now → now.orders ≡ t.orders ++ orders → keys_of_life (life_of t old c cs calls) ≡ keys_in orders
life_keys t old c cs calls tells now orders tells_then added =
    let (now', tells_now, orders', added', keys) = calls_orders (c ∷ cs) t old tells calls in
    let same : now' ≡ now = some_told now' now (sym tells_now ∙ tells_then) in
    keys ∙ ap keys_in (append_cancel_left t.orders orders' orders (sym added' ∙ ap (λ (u : ChildTrace). u.orders) same ∙ added))
