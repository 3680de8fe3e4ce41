-- The output of a child is passed to the next stage, also if the child ends in a later tick than it was started in.
use Rattle.std.proofs.Common.{◌≡◌, ◌⊎◌, inl, inr, ℕ, zero, suc, ◌<◌, Bool, true, false, cond, ◌==◌, ◌||◌, List, [], ◌∷◌, ◌++◌, length, slice_get, IsTrue, Option, Some, None, unwrap_or, Result, Ok, Err, refl, sym, ap, subst, ◌∙◌, append_assoc, append-nil, arith, nat_cmp}
use Rattle.std.specs.FinMap as finite
use Rattle.std.proofs.lemmas.Bool.{eqb-true, eq-eqb}
use Rattle.std.proofs.lemmas.Option.{slice_get_within}
use Rattle.spool_disk.specs.Disk.{DiskView}
use Rattle.spool_types.specs.declared.event.Event.{Event}
use Rattle.spool_types.specs.declared.event.Event.TheVariants.{Stage}
use Rattle.spool_types.specs.declared.rows.QueueRow.{QueueRow}
use Rattle.spool_types.specs.State.{State, Job, job_at}
use Rattle.job_table.specs.DocumentLengths.{document_len}
use Rattle.job_table.specs.EventFold.{after_all}
use Rattle.job_table.specs.Legal.{IsLegal}
use Rattle.job_table.specs.Stages.{Key}
use Rattle.spool_core.specs.OpenSpools.{OpenSpool}
use Rattle.filter_args.specs.declared.place.Place.{Place}
use Rattle.child_pipeline.specs.StageSlots.{Slots, slot_in, begun, with_progress, put_progress, progress_after, IsStart, IsTicketless, order_in, end_in, FinishesFrom, FinishesStage, Waits, IsFinish}
use Rattle.child_pipeline.specs.Tickets.{AreKeptBy, AreOnce, HasTickets, IsRunningAs}
use Rattle.child_pipeline.specs.ChildTraces.{ChildTrace, is_in, without, Looks, starts_first, started_by, first_finish, after_finish, after_look}
use Rattle.print_rounds.specs.declared.start_room.StartRoom.{StartRoom}
use Rattle.print_rounds.specs.declared.start_room.TickLimits.{TickLimits}
use Rattle.child_pipeline.specs.declared.order.ChildFault.{ChildFault}
use Rattle.child_pipeline.specs.declared.order.Finish.{Finish}
use Rattle.child_pipeline.specs.declared.order.Order.{Order}
use Rattle.child_pipeline.specs.declared.order.Placed.{Placed}
use Rattle.child_pipeline.specs.declared.runner.Progress.{Progress}
use Rattle.child_pipeline.specs.declared.runner.Progress.TheVariants.{Ready, Running, Ended}
use Rattle.child_pipeline.specs.declared.runner.Slot.{Slot}
use Rattle.print_rounds.specs.Choice.{slots_for}
use Rattle.print_rounds.specs.Counts.{report_events, starting_events}
use Rattle.print_rounds.specs.RunStates.{RunState, run_state, Launching, IsInput, IsLaunch, AreLaunchings, AreHanded, given, Ending, IsEnding, IsEndingOf, AreEndings, is_silent}
use Rattle.print_rounds.specs.TickInputs.{IsOrderFor, RunTheirStages, answer_to, answer_of, answer_by, answer_at, refused_in, ended_in, dropped_in, answers_in, finished_in, AllRight, TickHandsOn, FinishesHandOn, TickCall, AreTicks, AreHandedOn}
use Rattle.print_rounds.specs.Inputs.{AnsweredOrder, IsRight, HaveDocuments, IsKeptFrom, AreKeptFrom}
use Rattle.print_rounds.specs.StageChecks.{Look, IsLookBy, AreLooks, is_looked_at, Dropping, IsDropped, IsDropping, AreDroppings, idle_slots, is_kept}
use Rattle.print_rounds.specs.Passes.{PassSteps, IsPass}
use Rattle.print_rounds.specs.RoundTicks.{IsTickOf, Finishing, AreFinishings}
use Rattle.print_rounds.specs.StageHistory.{key_in}
use Rattle.print_rounds.specs.declared.outcome.Launch.{Launch}
use Rattle.print_rounds.specs.declared.outcome.Launch.TheVariants.{Unlaunched, Launched, NoMemory, Disk, Dead}
use Rattle.print_rounds.specs.declared.outcome.Round.{Round}
use Rattle.print_rounds.specs.declared.outcome.RoundFault.{RoundFault}
use Rattle.print_rounds.proofs.CurrentLaws.{due_of}
use Rattle.print_rounds.proofs.EndLaws.{get_own, get_other, get_left, get_gone, SameBut, report_same, end_rests, ticketless, none_ticketless}
use Rattle.print_rounds.proofs.HandLaws.{left_there}
use Rattle.print_rounds.proofs.InputLaws.{HasRun, at_due, documents_both, kept_more, kept_but, own_kept, own_slots, gone_kept, run_given, last_of, ready_rests, others, here, new_kept, unstarted_rests, own_documents, right, report_kept}
use Rattle.print_rounds.proofs.LaunchLaws.{HasNumbers, due_own, some_of}
use Rattle.print_rounds.proofs.PartLaws.{starts_part, end_part}
use Rattle.print_rounds.proofs.ReadLaws.{reads_state}

-- ## Lists

order_there : (xs ys : List Placed) (n : ℕ) (x : Placed) → slice_get xs n ≡ Some x → slice_get (xs ++ ys) n ≡ Some x
order_there [] ys n x is = absurd (cc)
order_there (y ∷ xs) ys zero x is = is
order_there (y ∷ xs) ys (suc n) x is = order_there xs ys n x is

order_last : (xs : List Placed) (x : Placed) → slice_get (xs ++ x ∷ []) (length xs) ≡ Some x
order_last [] x = refl
order_last (y ∷ xs) x = order_last xs x

order_more : (xs ys : List Placed) (n : ℕ) (k : Key) → IsOrderFor xs n k → IsOrderFor (xs ++ ys) n k
order_more xs ys n k is = record { order = is.order; there = order_there xs ys n is.order is.there; key = is.key }

or_later : (a b : Bool) → b ≡ true → (a || b) ≡ true
or_later true b is = refl
or_later false b is = is

or_still : (a b c : Bool) → (b ≡ true → c ≡ true) → (a || b) ≡ true → (a || c) ≡ true
or_still true b c on is = refl
or_still false b c on is = on is

in_more : (n y : ℕ) (xs : List ℕ) → is_in n xs ≡ true → is_in n (xs ++ y ∷ []) ≡ true
in_more n y [] is = absurd (cc)
in_more n y (x ∷ xs) is = or_still (x == n) (is_in n xs) (is_in n (xs ++ y ∷ [])) (in_more n y xs) is

in_last : (y : ℕ) (xs : List ℕ) → is_in y (xs ++ y ∷ []) ≡ true
in_last y [] = ap (λ b. b || false) (eq-eqb y y refl)
in_last y (x ∷ xs) = or_later (x == y) (is_in y (xs ++ y ∷ [])) (in_last y xs)

still_in : (m n : ℕ) (xs : List ℕ) → ¬ (m ≡ n) → is_in m xs ≡ true → is_in m (without n xs) ≡ true
still_in m n [] apart is = is
still_in m n (x ∷ xs) apart is = by_gone (still_in m n xs apart) (x == n) refl
  where
    head_gone : x ≡ n → (b : Bool) → (x == m) ≡ b → (b || is_in m xs) ≡ true → is_in m xs ≡ true
    head_gone same true at or = absurd (apart (sym (eqb-true x m at) ∙ same))
    head_gone same false at or = or

    by_gone : (is_in m xs ≡ true → is_in m (without n xs) ≡ true) → (b : Bool) → (x == n) ≡ b → is_in m (cond (x == n) xs (x ∷ without n xs)) ≡ true
    by_gone on true at = subst (λ c. is_in m (cond c xs (x ∷ without n xs)) ≡ true) (sym at) (head_gone (eqb-true x n at) (x == m) refl is)
    by_gone on false at = subst (λ c. is_in m (cond c xs (x ∷ without n xs)) ≡ true) (sym at) (or_still (x == m) (is_in m xs) (is_in m (without n xs)) on is)

all_both : (earlier : List AnsweredOrder) (ps qs : List Placed) → AllRight earlier ps → AllRight earlier qs → AllRight earlier (ps ++ qs)
all_both earlier [] qs first second = second
all_both earlier (p ∷ ps) qs first second = (first.0, all_both earlier ps qs first.1 second)

-- ## The children of slots

-- Each is running in the trace, belongs to one slot only, and runs the slot's stage.
record HasRunners (t : ChildTrace) (slots : Slots) : Type 0 where
  pub running : (j n : ℕ) → IsRunningAs slots j n → is_in n t.running ≡ true
  pub apart : (i j n : ℕ) → IsRunningAs slots i n → IsRunningAs slots j n → i ≡ j
  pub run : RunTheirStages t.orders slots

-- The stage of a job's slot.
abbrev stage_at : ℕ → Slot ℕ → Key
stage_at k slot = record { job = k; attempt = slot.attempt; stage = slot.stage }

-- Each slot with a running child existed before.
abbrev pub IsFewer : Slots → Slots → Type 0
IsFewer old new = (k n : ℕ) (slot : Slot ℕ) → finite.get new k ≡ Some slot → slot.progress ≡ Running n → finite.get old k ≡ Some slot

never_runs : (o : Option (Slot ℕ)) (slot : Slot ℕ) (n : ℕ) → IsTicketless o → o ≡ Some slot → slot.progress ≡ Running n → ⊥
never_runs o slot n rests there runs = subst IsTicketless there rests n runs

same_fewer : (old new : Slots) → new ≡ old → IsFewer old new
same_fewer old new same k n slot there runs = ap (λ m. finite.get m k) (sym same) ∙ there

put_fewer : (j : ℕ) (old new : Slots) → SameBut j old new → IsTicketless (finite.get new j) → IsFewer old new
put_fewer j old new same rests k n slot there runs = by_job (k == j) refl
  where
    by_job : (b : Bool) → (k == j) ≡ b → finite.get old k ≡ Some slot
    by_job true is = absurd (never_runs (finite.get new k) slot n (subst (λ i. IsTicketless (finite.get new i)) (sym (eqb-true k j is)) rests) there runs)
    by_job false is = sym (same k is) ∙ there

as_before : (old new : Slots) → IsFewer old new → (j n : ℕ) → IsRunningAs new j n → IsRunningAs old j n
as_before old new fewer j n is = record { slot = is.slot; there = fewer j n is.slot is.there is.runs; runs = is.runs }

fewer_run : (t : ChildTrace) (old new : Slots) → IsFewer old new → HasRunners t old → HasRunners t new
fewer_run t old new fewer has = record {
  running = λ j n is. has.running j n (as_before old new fewer j n is);
  apart = λ i j n first second. has.apart i j n (as_before old new fewer i n first) (as_before old new fewer j n second);
  run = λ j n slot there runs. has.run j n slot (fewer j n slot there runs) runs;
}

-- The same with more orders that were not started.
grown_run : (t t' : ChildTrace) (slots : Slots) (more : List Placed) → t'.running ≡ t.running → t'.orders ≡ t.orders ++ more → HasRunners t slots → HasRunners t' slots
grown_run t t' slots more running orders has = record {
  running = λ j n is. ap (is_in n) running ∙ has.running j n is;
  apart = has.apart;
  run = λ j n slot there runs. subst (λ ps. IsOrderFor ps n (stage_at j slot)) (sym orders) (order_more t.orders more n (stage_at j slot) (has.run j n slot there runs));
}

told_run : (t t' : ChildTrace) (slots : Slots) → t'.running ≡ t.running → t'.orders ≡ t.orders → HasRunners t slots → HasRunners t' slots
told_run t t' slots running orders has = grown_run t t' slots [] running (orders ∙ sym (append-nil t.orders)) has

-- The slot's child is finished.
finished_run : (t : ChildTrace) (n j : ℕ) (slot : Slot ℕ) (old new : Slots) → finite.get old j ≡ Some slot → slot.progress ≡ Running n → IsFewer old new → IsTicketless (finite.get new j) → HasRunners t old → HasRunners (after_finish t n) new
finished_run t n j slot old new there runs fewer rests has = record {
  running = λ k m is. still_in m n t.running (λ same.
      let own : k ≡ j = has.apart k j n (subst (IsRunningAs old k) same (as_before old new fewer k m is)) (record { slot = slot; there = there; runs = runs }) in
      never_runs (finite.get new j) is.slot m rests (subst (λ i. finite.get new i ≡ Some is.slot) own is.there) is.runs) (has.running k m (as_before old new fewer k m is));
  apart = λ i k m first second. has.apart i k m (as_before old new fewer i m first) (as_before old new fewer k m second);
  run = λ k m x at runs. has.run k m x (fewer k m x at runs) runs;
}

abbrev number_in : Progress ℕ → ℕ
number_in (Ready input) = 0
number_in (Running n) = n
number_in (Ended finish) = 0

-- A child was started for a slot.
module _ (t t' : ChildTrace) (p : Placed) (j : ℕ) (old new : Slots) (put : Slot ℕ) (same : SameBut j old new) (there : finite.get new j ≡ Some put) (runs : put.progress ≡ Running (length t.orders)) (key : key_in p ≡ record { job = j; attempt = put.attempt; stage = put.stage }) (orders : t'.orders ≡ t.orders ++ p ∷ []) (running : t'.running ≡ t.running ++ length t.orders ∷ []) (has : HasRunners t old) where
  own_put : (k : ℕ) (slot : Slot ℕ) → (k == j) ≡ true → finite.get new k ≡ Some slot → slot ≡ put
  own_put k slot is at = some_of slot put (sym at ∙ ap (finite.get new) (eqb-true k j is) ∙ there)

  own_number : (k n : ℕ) (slot : Slot ℕ) → (k == j) ≡ true → finite.get new k ≡ Some slot → slot.progress ≡ Running n → n ≡ length t.orders
  own_number k n slot is at runs_as = ap number_in (sym runs_as ∙ ap (λ (x : Slot ℕ). x.progress) (own_put k slot is at) ∙ runs)

  is_new : (k n : ℕ) → IsRunningAs new k n → ((k ≡ j) × (n ≡ length t.orders)) ⊎ IsRunningAs old k n
  is_new k n is = by_job (k == j) refl
    where
      by_job : (b : Bool) → (k == j) ≡ b → ((k ≡ j) × (n ≡ length t.orders)) ⊎ IsRunningAs old k n
      by_job true own = inl (eqb-true k j own, own_number k n is.slot own is.there is.runs)
      by_job false other = inr (record { slot = is.slot; there = sym (same k other) ∙ is.there; runs = is.runs })

  known : (k n : ℕ) → IsRunningAs old k n → n < length t.orders
  known k n is = let order = has.run k n is.slot is.there is.runs in slice_get_within t.orders n order.order order.there

  started_running : (k n : ℕ) → IsRunningAs new k n → is_in n t'.running ≡ true
  started_running k n is = ap (is_in n) running ∙ by_case (is_new k n is)
    where
      by_case : ((k ≡ j) × (n ≡ length t.orders)) ⊎ IsRunningAs old k n → is_in n (t.running ++ length t.orders ∷ []) ≡ true
      by_case (inl (own, number)) = subst (λ m. is_in m (t.running ++ length t.orders ∷ []) ≡ true) (sym number) (in_last (length t.orders) t.running)
      by_case (inr before) = in_more n (length t.orders) t.running (has.running k n before)

  started_apart : (i k n : ℕ) → IsRunningAs new i n → IsRunningAs new k n → i ≡ k
  started_apart i k n first second = by_case (is_new i n first) (is_new k n second)
    where
      by_case : ((i ≡ j) × (n ≡ length t.orders)) ⊎ IsRunningAs old i n → ((k ≡ j) × (n ≡ length t.orders)) ⊎ IsRunningAs old k n → i ≡ k
      by_case (inl (own, number)) (inl (own', number')) = own ∙ sym own'
      by_case (inl (own, number)) (inr before) = let lt : n < length t.orders = known k n before in absurd (omega (arith, lt, number))
      by_case (inr before) (inl (own, number)) = let lt : n < length t.orders = known i n before in absurd (omega (arith, lt, number))
      by_case (inr one) (inr other) = has.apart i k n one other

  started_order : IsOrderFor t'.orders (length t.orders) (stage_at j put)
  started_order = record { order = p; there = ap (λ ps. slice_get ps (length t.orders)) orders ∙ order_last t.orders p; key = key }

  started_stages : RunTheirStages t'.orders new
  started_stages k n slot at runs_as = by_job (k == j) refl
    where
      by_job : (b : Bool) → (k == j) ≡ b → IsOrderFor t'.orders n (stage_at k slot)
      by_job true is =
          subst (λ m. IsOrderFor t'.orders m (stage_at k slot)) (sym (own_number k n slot is at runs_as))
          (subst (λ i. IsOrderFor t'.orders (length t.orders) (stage_at i slot)) (sym (eqb-true k j is))
          (subst (λ x. IsOrderFor t'.orders (length t.orders) (stage_at j x)) (sym (own_put k slot is at)) started_order))
      by_job false is = subst (λ ps. IsOrderFor ps n (stage_at k slot)) (sym orders) (order_more t.orders (p ∷ []) n (stage_at k slot) (has.run k n slot (sym (same k is) ∙ at) runs_as))

  started_run : HasRunners t' new
  started_run = record { running = started_running; apart = started_apart; run = started_stages }

-- ## The start of a stage

record IsStartOn (earlier : List AnsweredOrder) (t : ChildTrace) (j : ℕ) (d : Option (List ℕ)) (new : Slots) (told : Option ChildTrace) : Type 0 where
  pub now : ChildTrace
  pub tells : told ≡ Some now
  pub orders : List Placed
  pub added : now.orders ≡ t.orders ++ orders
  pub right : AllRight earlier orders
  pub documents : (documents : ℕ → List ℕ) → ((read : List ℕ) → d ≡ Some read → read ≡ documents j) → HaveDocuments documents orders
  pub kept : AreKeptFrom earlier new
  pub runs : HasRunners now new

-- No order was given.
no_start_on : (earlier : List AnsweredOrder) (t : ChildTrace) (j : ℕ) (d : Option (List ℕ)) (old new : Slots) (told : Option ChildTrace) → told ≡ Some t → AreKeptFrom earlier new → IsFewer old new → HasRunners t old → IsStartOn earlier t j d new told
no_start_on earlier t j d old new told tells kept fewer runs = record {
  now = t;
  tells = tells;
  orders = [];
  added = sym (append-nil t.orders);
  right = tt;
  documents = λ documents read. tt;
  kept = kept;
  runs = fewer_run t old new fewer runs;
}

module _ (earlier : List AnsweredOrder) (place : Place) (t : ChildTrace) (old own : Slots) (r : Job) (q : QueueRow) (d : Option (List ℕ)) (due : slots_for old r ≡ Some own) (input : IsInput (slot_in own r.id).progress (document_len r) d) (kept_old : AreKeptFrom earlier old) (runs : HasRunners t old) (b : Bool) (n : ℕ) (new : Slots) (put : new ≡ put_progress own r.id (progress_after b n)) where
  same_but : SameBut r.id old new
  same_but = others earlier place t t.finishes old own r q d due input kept_old b n new put

  slot_at : (c : Bool) → b ≡ c → finite.get new r.id ≡ Some (with_progress (slot_in own r.id) (progress_after c n))
  slot_at c is = here earlier place t t.finishes old own r q d due input kept_old b n new put c is

  kept_then : (c : Bool) → b ≡ c → AreKeptFrom earlier new
  kept_then c is = subst (λ xs. AreKeptFrom xs new) (append-nil earlier) (new_kept earlier place t t.finishes old own r q d due input kept_old b n new put [] c is)

  is_right : IsRight earlier (order_in place own r q (given d))
  is_right = right earlier place t t.finishes old own r q d due input kept_old b n new put

  fewer : b ≡ false → IsFewer old new
  fewer is = put_fewer r.id old new same_but (unstarted_rests earlier place t t.finishes old own r q d due input kept_old b n new put is)

  -- By the answers to come.
  start_on : (told : Option ChildTrace) (starts : List (Result (Unit {0}) ChildFault)) → t.starts ≡ starts → b ≡ starts_first starts → (IsTrue b → n ≡ length t.orders) → told ≡ Some (started_by t (order_in place own r q (given d)) starts) → IsStartOn earlier t r.id d new told
  start_on told [] e is number tells = no_start_on earlier t r.id d old new told tells (kept_then false is) (fewer is) runs
  start_on told (Ok done ∷ rest) e is number tells =
      let order : Order = order_in place own r q (given d) in
      let p : Placed = record { order = order; before = t.finished } in
      let now : ChildTrace = started_by t order (Ok done ∷ rest) in
      record {
        now = now;
        tells = tells;
        orders = p ∷ [];
        added = refl;
        right = (is_right, tt);
        documents = own_documents earlier place t t.finishes old own r q d due input kept_old b n new put t.finished;
        kept = kept_then true is;
        runs = started_run t now p r.id old new (with_progress (slot_in own r.id) (progress_after true n)) same_but (slot_at true is) (ap Running (number is)) refl refl refl runs;
      }
  start_on told (Err fault ∷ rest) e is number tells =
      let order : Order = order_in place own r q (given d) in
      let p : Placed = record { order = order; before = t.finished } in
      let now : ChildTrace = started_by t order (Err fault ∷ rest) in
      record {
        now = now;
        tells = tells;
        orders = p ∷ [];
        added = refl;
        right = (is_right, tt);
        documents = own_documents earlier place t t.finishes old own r q d due input kept_old b n new put t.finished;
        kept = kept_then false is;
        runs = grown_run t now new (p ∷ []) refl refl (fewer_run t old new (fewer is) runs);
      }

same_on : (earlier : List AnsweredOrder) (t : ChildTrace) (old : Slots) (j : ℕ) (d : Option (List ℕ)) (new : Slots) (told : Option ChildTrace) → told ≡ Some t → AreKeptFrom earlier old → HasRunners t old → new ≡ old → IsStartOn earlier t j d new told
same_on earlier t old j d new told tells kept runs same = no_start_on earlier t j d old new told tells (subst (AreKeptFrom earlier) (sym same) kept) (same_fewer old new same) runs

own_on : (earlier : List AnsweredOrder) (t : ChildTrace) (old : Slots) (j : ℕ) (d : Option (List ℕ)) (r : Job) (own new : Slots) (told : Option ChildTrace) → slots_for old r ≡ Some own → told ≡ Some t → AreKeptFrom earlier old → HasRunners t old → new ≡ own → IsStartOn earlier t j d new told
own_on earlier t old j d r own new told due tells kept runs same =
    let (slot, there, ready) = at_due (finite.get own r.id) r.phase (due_of old r own due) in
    no_start_on earlier t j d old new told tells (subst (AreKeptFrom earlier) (sym same) (own_slots earlier old r own due kept))
    (subst (IsFewer old) (sym same) (put_fewer r.id old own (due_own old r own due).same (ready_rests (finite.get own r.id) slot there ready))) runs

module _ (place : Place) (s : State) (numbers : HasNumbers s) where
  launch_on : (earlier : List AnsweredOrder) (t : ChildTrace) (old : Slots) (told : Option ChildTrace) (j : ℕ) (d : Option (List ℕ)) (l : Launch) (new : Slots) (told' : Option ChildTrace) → IsLaunch place s old told j d l new told' → told ≡ Some t → AreKeptFrom earlier old → HasRunners t old → IsStartOn earlier t j d new told'
  launch_on earlier t old told j d Unlaunched new told' (rest, none, same, tells') tells kept runs = same_on earlier t old j d new told' (tells' ∙ tells) kept runs same
  launch_on earlier t old told j d (Launched b) new told' (r, q, own, due, input, starts) tells kept runs =
      let order : Order = order_in place own r q (given d) in
      let start : IsStart (Some t) order b starts.number told' = subst (λ o. IsStart o order b starts.number told') tells starts.start in
      subst (λ i. IsStartOn earlier t i d new told') (numbers j r due.row)
      (start_on earlier place t old own r q d due.due input kept runs b starts.number new starts.slots told' t.starts refl start.answer start.number start.told)
  launch_on earlier t old told j d NoMemory new told' (r, q, own, due, either, tells') tells kept runs = elim either [
    | inl same ↦ same_on earlier t old j d new told' (tells' ∙ tells) kept runs same
    | inr same ↦ own_on earlier t old j d r own new told' due.due (tells' ∙ tells) kept runs same
  ]
  launch_on earlier t old told j d Disk new told' (r, q, own, due, none, same, tells') tells kept runs = own_on earlier t old j d r own new told' due.due (tells' ∙ tells) kept runs same
  launch_on earlier t old told j d Dead new told' (none, same, tells') tells kept runs = same_on earlier t old j d new told' (tells' ∙ tells) kept runs same

  record AreStartsOn (earlier : List AnsweredOrder) (t : ChildTrace) (ts : List Launching) (new : Slots) (told : Option ChildTrace) : Type 0 where
    pub now : ChildTrace
    pub tells : told ≡ Some now
    pub orders : List Placed
    pub added : now.orders ≡ t.orders ++ orders
    pub right : AllRight earlier orders
    pub documents : (documents : ℕ → List ℕ) → AreHanded documents ts → HaveDocuments documents orders
    pub kept : AreKeptFrom earlier new
    pub runs : HasRunners now new

  launches_on : (earlier : List AnsweredOrder) (t : ChildTrace) (old : Slots) (told : Option ChildTrace) (ts : List Launching) (new : Slots) (told' : Option ChildTrace) → AreLaunchings place s old told ts new told' → told ≡ Some t → AreKeptFrom earlier old → HasRunners t old → AreStartsOn earlier t ts new told'
  launches_on earlier t old told [] new told' (same, tells') tells kept runs = record {
    now = t;
    tells = tells' ∙ tells;
    orders = [];
    added = sym (append-nil t.orders);
    right = tt;
    documents = λ documents handed. tt;
    kept = subst (AreKeptFrom earlier) (sym same) kept;
    runs = fewer_run t old new (same_fewer old new same) runs;
  }
  launches_on earlier t old told (l ∷ ts) new told' (launch, launches) tells kept runs =
      let one = launch_on earlier t old told l.job l.document l.launch l.slots l.told launch tells kept runs in
      let more = launches_on earlier one.now l.slots l.told ts new told' launches one.tells one.kept one.runs in
      record {
        now = more.now;
        tells = more.tells;
        orders = one.orders ++ more.orders;
        added = more.added ∙ ap (λ ps. ps ++ more.orders) one.added ∙ append_assoc t.orders one.orders more.orders;
        right = all_both earlier one.orders more.orders one.right more.right;
        documents = λ documents handed. documents_both documents one.orders more.orders (one.documents documents handed.0) (more.documents documents handed.1);
        kept = more.kept;
        runs = more.runs;
      }

-- ## Checks

-- The orders and the running children in the trace are unchanged.
abbrev IsSeen : ChildTrace → Option ChildTrace → Type 0
IsSeen t told = (now : ChildTrace) × (told ≡ Some now) × (now.orders ≡ t.orders) × (now.running ≡ t.running)

look_on : (b : Bool) (told : Option ChildTrace) (l : Look) (t : ChildTrace) → IsLookBy b told l → told ≡ Some t → IsSeen t l.told
look_on true told l t look tells = let is = subst (λ o. Looks o l.ripe l.told) tells look in (after_look t, is.told, refl, refl)
look_on false told l t look tells = (t, look.1 ∙ tells, refl, refl)

looks_on : (waits : Bool) (slots : Slots) (told : Option ChildTrace) (ls : List Look) (told' : Option ChildTrace) (t : ChildTrace) → AreLooks waits slots told ls told' → told ≡ Some t → IsSeen t told'
looks_on waits slots told [] told' t same tells = (t, same ∙ tells, refl, refl)
looks_on waits slots told (l ∷ ls) told' t (look, looks) tells =
    let (mid, tells_mid, orders, running) = look_on (is_looked_at waits slots l.job) told l t look tells in
    let (now, tells_now, orders', running') = looks_on waits slots l.told ls told' mid looks tells_mid in
    (now, tells_now, orders' ∙ orders, running' ∙ running)

-- ## The finish of a child

grown_kept : (xs ys : List AnsweredOrder) (slots : Slots) → AreKeptFrom xs slots → AreKeptFrom (xs ++ ys) slots
grown_kept xs ys slots kept j slot there = kept_more xs ys j slot slot.progress (kept j slot there)

-- A job's child was finished, or its finish was stored before.
record IsFinishedOn (xs : List AnsweredOrder) (t : ChildTrace) (told : Option ChildTrace) (old : Slots) (j : ℕ) (new : Slots) (told' : Option ChildTrace) : Type 0 where
  pub now : ChildTrace
  pub tells : told' ≡ Some now
  pub orders : now.orders ≡ t.orders
  pub runs : HasRunners now new
  pub kept : AreKeptFrom (xs ++ answer_at (finite.get old j) told) new
  pub slot : Slot ℕ
  pub finish : Finish
  pub there : finite.get new j ≡ Some slot
  pub ended : slot.progress ≡ Ended finish
  pub same : SameBut j old new

module _ (xs : List AnsweredOrder) (t : ChildTrace) (told : Option ChildTrace) (old : Slots) (j : ℕ) (new : Slots) (told' : Option ChildTrace) (tells : told ≡ Some t) (runs : HasRunners t old) (kept_old : AreKeptFrom xs old) where
  -- The slot's child is finished.
  waited_on : (slot : Slot ℕ) (n : ℕ) → finite.get old j ≡ Some slot → slot.progress ≡ Running n → Waits told n old j new told' → IsFinishedOn xs t told old j new told'
  waited_on slot n there is fin =
      let own : slot_in old j ≡ slot = ap (λ o. unwrap_or o (begun 0 0)) there in
      let runs_as : IsRunningAs old j n = record { slot = slot; there = there; runs = is } in
      let (answer, tells') = subst (λ o. IsFinish o n fin.finish told') tells fin.answer (runs.running j n runs_as) in
      let order = runs.run j n slot there is in
      let x : AnsweredOrder = record { order = order.order.order; finish = first_finish t.finishes } in
      let answered : answer_at (finite.get old j) told ≡ x ∷ [] =
      ap (λ o. answer_at o told) there ∙ ap (λ p. answer_by p told) is ∙ ap (answer_of n) tells ∙ ap (λ o. answer_to o (first_finish t.finishes)) order.there in
      let put : Slot ℕ = with_progress slot (Ended fin.finish) in
      let at : finite.get new j ≡ Some put =
      ap (λ m. finite.get m j) fin.slots ∙ get_own old j (with_progress (slot_in old j) (Ended fin.finish)) ∙ ap (λ (y : Slot ℕ). Some (with_progress y (Ended fin.finish))) own in
      let same : SameBut j old new = λ k other. ap (λ m. finite.get m k) fin.slots ∙ get_other old j k (with_progress (slot_in old j) (Ended fin.finish)) other in
      let rests : IsTicketless (finite.get new j) = ticketless (finite.get new j) put (Ended fin.finish) at refl refl in
      let ran : HasRun (xs ++ x ∷ []) (record { job = j; attempt = slot.attempt; stage = slot.stage }) (first_finish t.finishes) = record { from = x; among = last_of xs x; key = order.key; ends = refl } in
      let (m, stage) = subst (IsKeptFrom xs j slot) is (kept_old j slot there) in
      let kept_then : AreKeptFrom (xs ++ x ∷ []) new =
      kept_but (xs ++ x ∷ []) j old new same (grown_kept xs (x ∷ []) old kept_old)
      (own_kept (xs ++ x ∷ []) j new put at (m, stage, λ code. run_given (xs ++ x ∷ []) _ (first_finish t.finishes) ran fin.finish answer code)) in
      record {
        now = after_finish t n;
        tells = tells';
        orders = refl;
        runs = finished_run t n j slot old new there is (put_fewer j old new same rests) rests runs;
        kept = subst (λ ys. AreKeptFrom (xs ++ ys) new) (sym answered) kept_then;
        slot = put;
        finish = fin.finish;
        there = at;
        ended = refl;
        same = same;
      }

  -- Its finish was stored.
  ended_on : (slot : Slot ℕ) (finish : Finish) → finite.get old j ≡ Some slot → slot.progress ≡ Ended finish → new ≡ old → told' ≡ told → IsFinishedOn xs t told old j new told'
  ended_on slot finish there is same tells' = record {
    now = t;
    tells = tells' ∙ tells;
    orders = refl;
    runs = fewer_run t old new (same_fewer old new same) runs;
    kept = subst (AreKeptFrom (xs ++ answer_at (finite.get old j) told)) (sym same) (grown_kept xs (answer_at (finite.get old j) told) old kept_old);
    slot = slot;
    finish = finish;
    there = ap (λ m. finite.get m j) same ∙ there;
    ended = is;
    same = λ k other. ap (λ m. finite.get m k) same;
  }

  finish_on : FinishesStage told old j new told' → IsFinishedOn xs t told old j new told'
  finish_on finishes = by_slot (finite.get old j) refl
    where
      by_progress : (slot : Slot ℕ) (p : Progress ℕ) → finite.get old j ≡ Some slot → slot.progress ≡ p → FinishesFrom p told old j new told' → IsFinishedOn xs t told old j new told'
      by_progress slot (Ready input) there is fin = absurd fin
      by_progress slot (Running n) there is fin = waited_on slot n there is fin
      by_progress slot (Ended finish) there is fin = ended_on slot finish there is fin.0 fin.1

      by_slot : (o : Option (Slot ℕ)) → finite.get old j ≡ o → IsFinishedOn xs t told old j new told'
      by_slot None there = absurd (subst (λ o. FinishesFrom (unwrap_or o (begun 0 0)).progress told old j new told') there finishes)
      by_slot (Some slot) there = by_progress slot slot.progress there refl (subst (λ o. FinishesFrom (unwrap_or o (begun 0 0)).progress told old j new told') there finishes)

-- ## The ends of stages

-- The state after some orders have been answered.
record AreAnswered (xs : List AnsweredOrder) (t : ChildTrace) (slots : Slots) (told : Option ChildTrace) : Type 0 where
  pub now : ChildTrace
  pub tells : told ≡ Some now
  pub orders : now.orders ≡ t.orders
  pub runs : HasRunners now slots
  pub kept : AreKeptFrom xs slots

module _ {D : Type 0} (device : DiskView D) (stays : (s : State) (events : List Event) → IsLegal s → IsLegal (after_all s events)) where
  end_on : (xs : List AnsweredOrder) (t : ChildTrace) (old : RunState D) (e : Ending D) → IsEnding device old e → IsLegal old.spool.state → old.told ≡ Some t → HasRunners t old.slots → AreKeptFrom xs old.slots → AreAnswered (xs ++ answer_at (finite.get old.slots e.job) old.told) t e.next.slots e.next.told
  end_on xs t old e ends legal tells runs kept_old = by_silent (is_silent (finite.get old.slots e.job)) ends
    where
      unchanged : e.next ≡ old → AreAnswered (xs ++ answer_at (finite.get old.slots e.job) old.told) t e.next.slots e.next.told
      unchanged is = subst (λ (c : RunState D). AreAnswered (xs ++ answer_at (finite.get old.slots e.job) old.told) t c.slots c.told) (sym is)
          (record { now = t; tells = tells; orders = refl; runs = runs; kept = grown_kept xs (answer_at (finite.get old.slots e.job) old.told) old.slots kept_old })

      spoken : IsEndingOf device old false e → AreAnswered (xs ++ answer_at (finite.get old.slots e.job) old.told) t e.next.slots e.next.told
      spoken ending =
          let fin = finish_on xs t old.told old.slots e.job e.kept.slots e.kept.told tells runs kept_old ending.0 in
          let report = report_same device e.kept e.job e.report e.next ending.2 in
          let legal_kept : IsLegal e.kept.spool.state = subst (λ (x : OpenSpool D). IsLegal x.state) (sym ending.1) legal in
          record {
            now = fin.now;
            tells = report.0 ∙ fin.tells;
            orders = fin.orders;
            runs = fewer_run fin.now e.kept.slots e.next.slots (put_fewer e.job e.kept.slots e.next.slots report.1 (end_rests device old e ends).1) fin.runs;
            kept = report_kept device (xs ++ answer_at (finite.get old.slots e.job) old.told) e.kept e.next e.job fin.slot fin.finish e.report ending.2 legal_kept fin.there fin.ended fin.kept;
          }

      by_silent : (b : Bool) → IsEndingOf device old b e → AreAnswered (xs ++ answer_at (finite.get old.slots e.job) old.told) t e.next.slots e.next.told
      by_silent true ending = unchanged ending.2
      by_silent false ending = spoken ending

  ends_on : (xs : List AnsweredOrder) (t : ChildTrace) (old : RunState D) (es : List (Ending D)) (new : RunState D) → AreEndings device old es new → IsLegal old.spool.state → old.told ≡ Some t → HasRunners t old.slots → AreKeptFrom xs old.slots → AreAnswered (xs ++ ended_in old es) t new.slots new.told
  ends_on xs t old [] new same legal tells runs kept_old = subst (λ (c : RunState D). AreAnswered (xs ++ []) t c.slots c.told) (sym same)
      (record { now = t; tells = tells; orders = refl; runs = runs; kept = grown_kept xs [] old.slots kept_old })
  ends_on xs t old (e ∷ es) new (ends, others) legal tells runs kept_old =
      let one = end_on xs t old e ends legal tells runs kept_old in
      let legal_then : IsLegal e.next.spool.state = subst IsLegal (sym (end_part device old e ends).table) (stays old.spool.state (report_events (Stage (end_in e.kept.slots e.job)) e.report) legal) in
      let more = ends_on (xs ++ answer_at (finite.get old.slots e.job) old.told) one.now e.next es new others legal_then one.tells one.runs one.kept in
      record {
        now = more.now;
        tells = more.tells;
        orders = more.orders ∙ one.orders;
        runs = more.runs;
        kept = subst (λ ys. AreKeptFrom ys new.slots) (append_assoc xs (answer_at (finite.get old.slots e.job) old.told) (ended_in e.next es)) more.kept;
      }

-- ## Droppings, and `finish_children`

module _ (waits : Bool) where
  drop_on : (xs : List AnsweredOrder) (t : ChildTrace) (slots : Slots) (told : Option ChildTrace) (d : Dropping) → IsDropping waits slots told d → told ≡ Some t → HasRunners t slots → AreKeptFrom xs slots → AreAnswered (xs ++ cond d.look.ripe (answer_at (finite.get slots d.look.job) d.look.told) []) t d.slots d.told
  drop_on xs t slots told d (look, dropped) tells runs kept_old = by_ripe (look_on (is_looked_at waits slots d.look.job) told d.look t look tells) d.look.ripe dropped
    where
      by_ripe : IsSeen t d.look.told → (b : Bool) → IsDropped b slots d.look.job d.look.told d.slots d.told → AreAnswered (xs ++ cond b (answer_at (finite.get slots d.look.job) d.look.told) []) t d.slots d.told
      by_ripe (mid, tells_mid, orders, running) false (same, tells') = record {
        now = mid;
        tells = tells' ∙ tells_mid;
        orders = orders;
        runs = told_run t mid d.slots running orders (fewer_run t slots d.slots (same_fewer slots d.slots same) runs);
        kept = subst (AreKeptFrom (xs ++ [])) (sym same) (grown_kept xs [] slots kept_old);
      }
      by_ripe (mid, tells_mid, orders, running) true (ended, finishes, gone) =
          let fin = finish_on xs mid d.look.told slots d.look.job ended d.told tells_mid (told_run t mid slots running orders runs) kept_old finishes in
          record {
            now = fin.now;
            tells = fin.tells;
            orders = fin.orders ∙ orders;
            runs = fewer_run fin.now ended d.slots (put_fewer d.look.job ended d.slots (λ k other. ap (λ m. finite.get m k) gone ∙ get_left ended d.look.job k other)
                (none_ticketless (finite.get d.slots d.look.job) (ap (λ m. finite.get m d.look.job) gone ∙ get_gone ended d.look.job))) fin.runs;
            kept = subst (AreKeptFrom (xs ++ answer_at (finite.get slots d.look.job) d.look.told)) (sym gone) (gone_kept (xs ++ answer_at (finite.get slots d.look.job) d.look.told) ended d.look.job fin.kept);
          }

  drops_on : (xs : List AnsweredOrder) (t : ChildTrace) (slots : Slots) (told : Option ChildTrace) (ds : List Dropping) (new : Slots) (told' : Option ChildTrace) → AreDroppings waits slots told ds new told' → told ≡ Some t → HasRunners t slots → AreKeptFrom xs slots → AreAnswered (xs ++ dropped_in slots told ds) t new told'
  drops_on xs t slots told [] new told' (same, tells') tells runs kept_old = record {
    now = t;
    tells = tells' ∙ tells;
    orders = refl;
    runs = fewer_run t slots new (same_fewer slots new same) runs;
    kept = subst (AreKeptFrom (xs ++ [])) (sym same) (grown_kept xs [] slots kept_old);
  }
  drops_on xs t slots told (d ∷ ds) new told' (drop, drops) tells runs kept_old =
      let answers : List AnsweredOrder = cond d.look.ripe (answer_at (finite.get slots d.look.job) d.look.told) [] in
      let one = drop_on xs t slots told d drop tells runs kept_old in
      let more = drops_on (xs ++ answers) one.now d.slots d.told ds new told' drops one.tells one.runs one.kept in
      record {
        now = more.now;
        tells = more.tells;
        orders = more.orders ∙ one.orders;
        runs = more.runs;
        kept = subst (λ ys. AreKeptFrom ys new) (append_assoc xs answers (dropped_in d.slots d.told ds)) more.kept;
      }

finishings_on : (xs : List AnsweredOrder) (t : ChildTrace) (slots : Slots) (told : Option ChildTrace) (fs : List Finishing) (new : Slots) (told' : Option ChildTrace) → AreFinishings slots told fs new told' → told ≡ Some t → HasRunners t slots → AreKeptFrom xs slots → AreAnswered (xs ++ finished_in slots told fs) t new told'
finishings_on xs t slots told [] new told' (same, tells') tells runs kept_old = record {
  now = t;
  tells = tells' ∙ tells;
  orders = refl;
  runs = fewer_run t slots new (same_fewer slots new same) runs;
  kept = subst (AreKeptFrom (xs ++ [])) (sym same) (grown_kept xs [] slots kept_old);
}
finishings_on xs t slots told (f ∷ fs) new told' (finish, finishes) tells runs kept_old =
    let answers : List AnsweredOrder = answer_at (finite.get slots f.job) told in
    let one = finish_on xs t told slots f.job f.slots f.told tells runs kept_old finish in
    let more = finishings_on (xs ++ answers) one.now f.slots f.told fs new told' finishes one.tells one.runs one.kept in
    record {
      now = more.now;
      tells = more.tells;
      orders = more.orders ∙ one.orders;
      runs = more.runs;
      kept = subst (λ ys. AreKeptFrom ys new) (append_assoc xs answers (finished_in f.slots f.told fs)) more.kept;
    }

runners : (slots : Slots) (t : ChildTrace) → HasTickets slots t → RunTheirStages t.orders slots → HasRunners t slots
runners slots t tickets run = record { running = tickets.running; apart = tickets.apart; run = run }

-- The tickets after a finish.
abbrev TicketsStay : Type 0
TicketsStay = (slots : Slots) (j n : ℕ) (t : ChildTrace) (new : Slots) (told : Option ChildTrace) → HasTickets slots t → IsRunningAs slots j n → Waits (Some t) n slots j new told → AreKeptBy t 0 new told

abbrev HaveTickets : Slots → Option ChildTrace → Type 0
HaveTickets slots told = (now : ChildTrace) × (told ≡ Some now) × HasTickets slots now

module _ (stay : TicketsStay) where
  finish_tickets : (t : ChildTrace) (told : Option ChildTrace) (old : Slots) (j : ℕ) (new : Slots) (told' : Option ChildTrace) → told ≡ Some t → HasTickets old t → FinishesStage told old j new told' → HaveTickets new told'
  finish_tickets t told old j new told' tells tickets finishes = by_slot (finite.get old j) refl
    where
      by_progress : (slot : Slot ℕ) (p : Progress ℕ) → finite.get old j ≡ Some slot → slot.progress ≡ p → FinishesFrom p told old j new told' → HaveTickets new told'
      by_progress slot (Ready input) there is fin = absurd fin
      by_progress slot (Running n) there is fin =
          let by = stay old j n t new told' tickets (record { slot = slot; there = there; runs = is }) (subst (λ o. Waits o n old j new told') tells fin) in
          (by.now, by.tells, by.tickets)
      by_progress slot (Ended finish) there is fin = (t, fin.1 ∙ tells, subst (λ m. HasTickets m t) (sym fin.0) tickets)

      by_slot : (o : Option (Slot ℕ)) → finite.get old j ≡ o → HaveTickets new told'
      by_slot None there = absurd (subst (λ o. FinishesFrom (unwrap_or o (begun 0 0)).progress told old j new told') there finishes)
      by_slot (Some slot) there = by_progress slot slot.progress there refl (subst (λ o. FinishesFrom (unwrap_or o (begun 0 0)).progress told old j new told') there finishes)

  finishings_tickets : (t : ChildTrace) (slots : Slots) (told : Option ChildTrace) (fs : List Finishing) (new : Slots) (told' : Option ChildTrace) → AreFinishings slots told fs new told' → told ≡ Some t → HasTickets slots t → HaveTickets new told'
  finishings_tickets t slots told [] new told' (same, tells') tells tickets = (t, tells' ∙ tells, subst (λ m. HasTickets m t) (sym same) tickets)
  finishings_tickets t slots told (f ∷ fs) new told' (finish, finishes) tells tickets =
      let (mid, tells_mid, tickets_mid) = finish_tickets t told slots f.job f.slots f.told tells tickets finish in
      finishings_tickets mid f.slots f.told fs new told' finishes tells_mid tickets_mid

  pub finishes_hand : (earlier : List AnsweredOrder) (t : ChildTrace) (slots : Slots) (told : Option ChildTrace) (fs : List Finishing) (new : Slots) (told' : Option ChildTrace) → told ≡ Some t → HasTickets slots t → AreKeptFrom earlier slots → RunTheirStages t.orders slots → AreFinishings slots told fs new told' → FinishesHandOn earlier t slots told fs new told'
  finishes_hand earlier t slots told fs new told' tells tickets kept_old run finishes =
      let all = finishings_on earlier t slots told fs new told' finishes tells (runners slots t tickets run) kept_old in
      let (now, tells_now, tickets_now) = finishings_tickets t slots told fs new told' finishes tells tickets in
      record {
        now = all.now;
        tells = all.tells;
        orders = all.orders;
        kept = all.kept;
        run = all.runs.run;
        tickets = subst (HasTickets new) (some_of now all.now (sym tells_now ∙ all.tells)) tickets_now;
      }

-- ## No slots

none_there : {P : Type 0} (j : ℕ) (slot : Slot ℕ) → finite.get (finite.empty {R = nat_cmp}) j ≡ Some slot → P
none_there j slot there = let none : None ≡ Some slot = sym (finite.get-empty nat_cmp j) ∙ there in absurd (cc)

none_tickets : (t : ChildTrace) → t.running ≡ [] → HasTickets finite.empty t
none_tickets t quiet = record {
  running = λ j n is. none_there j is.slot is.there;
  owned = λ n is. let not : false ≡ true = ap (is_in n) (sym quiet) ∙ is in absurd (cc);
  apart = λ i j n first second. none_there i first.slot first.there;
  known = λ n is. let not : false ≡ true = ap (is_in n) (sym quiet) ∙ is in absurd (cc);
  once = subst AreOnce (sym quiet) tt;
}

-- ## A pass

idle_there : (s : State) (slots : Slots) (j : ℕ) (slot : Slot ℕ) → finite.get (idle_slots s slots) j ≡ Some slot → finite.get slots j ≡ Some slot
idle_there s slots j slot there = left_there (is_kept (job_at s j) (finite.get slots j)) (finite.get slots j) slot
    (sym (finite.get-retain_keys slots (λ k. is_kept (job_at s k) (finite.get slots k)) j (λ x tied. ap (λ k. is_kept (job_at s k) (finite.get slots k)) (sym (finite.nat_cmp-IsAntisymmetric j x tied)))) ∙ there)

module _ {D : Type 0} (device : DiskView D) (stays : (s : State) (events : List Event) → IsLegal s → IsLegal (after_all s events)) where
  pass_hands : (place : Place) (waits : Bool) (start_room : Option StartRoom) (earlier : List AnsweredOrder) (t : ChildTrace) (old : RunState D) (steps : PassSteps D) (new : RunState D) → IsPass device place waits start_room old steps new → IsLegal old.spool.state → old.told ≡ Some t → HasTickets old.slots t → AreKeptFrom earlier old.slots → RunTheirStages t.orders old.slots → TickHandsOn earlier t old steps new
  pass_hands place waits start_room earlier t old steps new made legal tells tickets kept_old run =
      let s : State = old.spool.state in
      let slots : Slots = idle_slots s old.slots in
      let mid : OpenSpool D = steps.parts.mid in
      let legal_mid : IsLegal mid.state = subst IsLegal (sym (starts_part device old.spool steps.parts.startings mid made.starts).table) (stays s (starting_events old.spool steps.parts.startings) legal) in
      let legal_read : IsLegal steps.parts.read.state = subst IsLegal (sym (reads_state device mid steps.parts.launchings steps.parts.read made.reads)) legal_mid in
      let runs : HasRunners t slots = fewer_run t old.slots slots (λ k n slot there is. idle_there s old.slots k slot there) (runners old.slots t tickets run) in
      let starts = launches_on place mid.state (λ j r there. (legal_mid.jobs j r there).id) earlier t slots old.told steps.parts.launchings steps.parts.slots steps.parts.told made.launches tells (λ j slot there. kept_old j slot (idle_there s old.slots j slot there)) runs in
      let (seen, tells_seen, orders_seen, running_seen) = looks_on waits steps.parts.slots steps.parts.told steps.looks steps.looked starts.now made.looks starts.tells in
      let refused : List AnsweredOrder = refused_in old.told steps.parts.launchings in
      let between : RunState D = run_state steps.parts.read steps.parts.slots steps.looked in
      let ends = ends_on device stays (earlier ++ refused) seen between steps.parts.endings steps.ended made.ends legal_read tells_seen (told_run starts.now seen steps.parts.slots running_seen orders_seen starts.runs) (grown_kept earlier refused steps.parts.slots starts.kept) in
      let ended : List AnsweredOrder = ended_in between steps.parts.endings in
      let drops = drops_on waits ((earlier ++ refused) ++ ended) ends.now steps.ended.slots steps.ended.told steps.droppings new.slots new.told made.drops ends.tells ends.runs ends.kept in
      let dropped : List AnsweredOrder = dropped_in steps.ended.slots steps.ended.told steps.droppings in
      record {
        now = drops.now;
        tells = drops.tells;
        orders = starts.orders;
        added = drops.orders ∙ ends.orders ∙ orders_seen ∙ starts.added;
        right = starts.right;
        documents = starts.documents;
        kept = subst (λ ys. AreKeptFrom ys new.slots) (ap (λ ys. ys ++ dropped) (append_assoc earlier refused ended) ∙ append_assoc earlier (refused ++ ended) dropped) drops.kept;
        run = drops.runs.run;
      }

  pub tick_hands : (place : Place) (limits : Option TickLimits) (earlier : List AnsweredOrder) (t : ChildTrace) (old new : RunState D) (result : Result Round RoundFault) → IsLegal old.spool.state → old.told ≡ Some t → HasTickets old.slots t → AreKeptFrom earlier old.slots → RunTheirStages t.orders old.slots → (r : IsTickOf device place limits old new result) → TickHandsOn earlier t old r.steps new
  tick_hands place limits earlier t old new result legal tells tickets kept_old run r = pass_hands place false r.start_room earlier t old r.steps new r.made legal tells tickets kept_old run

  -- ## Consecutive ticks

  all_hand : (place : Place) (earlier : List AnsweredOrder) (t : ChildTrace) (slots : Slots) (told : Option ChildTrace) (cs : List (TickCall D)) (ticks : AreTicks device place slots told cs) → told ≡ Some t → HasTickets slots t → AreKeptFrom earlier slots → RunTheirStages t.orders slots → AreHandedOn device place slots told earlier t cs ticks
  all_hand place earlier t slots told [] ticks tells tickets kept_old run = tt
  all_hand place earlier t slots told (c ∷ cs) (begins, tells_c, legal, tick, ticks) tells tickets kept_old run =
      let tickets_c : HasTickets c.old.slots t = subst (λ m. HasTickets m t) (sym begins) tickets in
      let hands = tick_hands place c.limits earlier t c.old c.new c.result legal (tells_c ∙ tells) tickets_c (subst (AreKeptFrom earlier) (sym begins) kept_old) (subst (RunTheirStages t.orders) (sym begins) run) tick in
      let by = tick.tickets t (tells_c ∙ tells) tickets_c in
      let same : by.now ≡ hands.now = some_of by.now hands.now (sym by.tells ∙ hands.tells) in (
        hands,
        all_hand place (earlier ++ answers_in c.old tick.steps) hands.now c.new.slots c.new.told cs ticks hands.tells (subst (HasTickets c.new.slots) same by.tickets) hands.kept hands.run,
      )

  pub ticks_hand : (place : Place) (t : ChildTrace) (cs : List (TickCall D)) (ticks : AreTicks device place finite.empty (Some t) cs) → t.running ≡ [] → AreHandedOn device place finite.empty (Some t) [] t cs ticks
  ticks_hand place t cs ticks quiet = all_hand place [] t finite.empty (Some t) cs ticks refl (none_tickets t quiet) (λ j slot there. none_there j slot there) (λ j n slot there runs. none_there j slot there)
