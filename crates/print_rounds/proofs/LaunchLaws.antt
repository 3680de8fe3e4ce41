-- Each start of a round comes before its first finish, and the children that were started are the running ones.
use Rattle.std.proofs.Common.{◌≡◌, ℕ, zero, suc, ◌<◌, ◌||◌, length, take, get_or, arith, Bool, true, false, cond, ◌==◌, List, [], ◌∷◌, ◌++◌, map, Option, Some, None, unwrap_or, refl, sym, ap, subst, ◌∙◌, append_assoc, append-nil, ◌⊎◌, inl, inr, Result, Ok, Err}
use Rattle.std.specs.FinMap as finite
use Rattle.spool_types.specs.declared.phase.Phase.{Phase}
use Rattle.spool_types.specs.declared.phase.Phase.TheVariants.{Incoming, Waiting, Processing, Completed, Canceled, Aborted}
use Rattle.spool_types.specs.State.{State, Job, job_at}
use Rattle.filter_args.specs.declared.place.Place.{Place}
use Rattle.child_pipeline.specs.declared.order.Order.{Order}
use Rattle.child_pipeline.specs.declared.order.ChildFault.{ChildFault}
use Rattle.child_pipeline.specs.declared.order.Placed.{Placed}
use Rattle.child_pipeline.specs.ChildTraces.{ChildTrace, is_in, starts_first, started_by, after_start}
use Rattle.child_pipeline.specs.StageSlots.{Slots, slot_in, begun, begun_in, with_progress, put_progress, progress_after, IsStart, IsStartOf, IsTicketless, order_in}
use Rattle.child_pipeline.specs.declared.runner.Progress.{Progress}
use Rattle.child_pipeline.specs.declared.runner.Progress.TheVariants.{Ready, Running, Ended}
use Rattle.child_pipeline.specs.declared.runner.Slot.{Slot}
use Rattle.print_rounds.specs.Choice.{slots_for, slots_in, slots_by, new_slots, readiness}
use Rattle.print_rounds.specs.RunStates.{Launching, IsLaunch, AreLaunchings, given}
use Rattle.print_rounds.specs.declared.outcome.Launch.{Launch}
use Rattle.print_rounds.specs.declared.outcome.Launch.TheVariants.{Unlaunched, Launched, NoMemory, Disk, Dead}
use Rattle.print_rounds.specs.Finished.{AreDistinct, with_number, with_slot, running_in, AreBefore, AreStarted, AllRest, after_starts}
use Rattle.print_rounds.proofs.EndLaws.{get_other, get_own, SameBut, not_first, not_second, turned, quiet}

-- The slots for a job's stage: those of other jobs are unchanged, and its own has no running child if it had none.
pub record IsOwn (slots : Slots) (j : ℕ) (own : Slots) : Type 0 where
  pub same : SameBut j slots own
  pub rests : with_slot (finite.get slots j) [] ≡ [] → with_slot (finite.get own j) [] ≡ []

kept_own : (slots : Slots) (j : ℕ) (own : Slots) → slots ≡ own → IsOwn slots j own
kept_own slots j own is = record { same = λ k other. ap (λ m. finite.get m k) (sym is); rests = λ rests. ap (λ m. with_slot (finite.get m j) []) (sym is) ∙ rests }

begun_own : (slots : Slots) (r : Job) (attempt stage stages : ℕ) → IsOwn slots r.id (begun_in slots r.id (Processing attempt stage stages))
begun_own slots r attempt stage stages = record {
  same = λ k other. get_other slots r.id k (begun attempt stage) other;
  rests = λ rests. ap (λ o. with_slot o []) (get_own slots r.id (begun attempt stage));
}

pub some_of : {X : Type 0} (x y : X) → Some x ≡ Some y → x ≡ y
some_of x y e = ap (λ o. unwrap_or o x) e

new_own : (slots : Slots) (r : Job) (own : Slots) (first : Bool) (p : Phase) → IsOwn slots r.id (begun_in slots r.id p) → cond first (Some (begun_in slots r.id p)) None ≡ Some own → IsOwn slots r.id own
new_own slots r own true p is e = subst (λ m. IsOwn slots r.id m) (some_of _ _ e) is
new_own slots r own false p is e = absurd (cc)

pub due_own : (slots : Slots) (r : Job) (own : Slots) → slots_for slots r ≡ Some own → IsOwn slots r.id own
due_own slots r own due = by_phase r.phase refl due
  where
    fresh : (attempt stage stages : ℕ) → r.phase ≡ Processing attempt stage stages → new_slots slots r stage ≡ Some own → IsOwn slots r.id own
    fresh attempt stage stages is e = new_own slots r own (stage == 1) r.phase (subst (λ p. IsOwn slots r.id (begun_in slots r.id p)) (sym is) (begun_own slots r attempt stage stages)) e

    by_slot : (attempt stage stages : ℕ) → r.phase ≡ Processing attempt stage stages → (o : Option Bool) → slots_by slots r stage o ≡ Some own → IsOwn slots r.id own
    by_slot attempt stage stages is None e = fresh attempt stage stages is e
    by_slot attempt stage stages is (Some true) e = kept_own slots r.id own (some_of _ _ e)
    by_slot attempt stage stages is (Some false) e = absurd (cc)

    by_phase : (p : Phase) → r.phase ≡ p → slots_in slots r p ≡ Some own → IsOwn slots r.id own
    by_phase (Processing attempt stage stages) is e = by_slot attempt stage stages is (readiness attempt stage (finite.get slots r.id)) e
    by_phase (Incoming hold) is e = absurd (cc)
    by_phase (Waiting hold not_before first) is e = absurd (cc)
    by_phase Completed is e = absurd (cc)
    by_phase Canceled is e = absurd (cc)
    by_phase (Aborted reason) is e = absurd (cc)

-- The result of the start of one stage.
pub record IsOneStart (t : ChildTrace) (old : Slots) (j : ℕ) (new : Slots) (told : Option ChildTrace) : Type 0 where
  pub now : ChildTrace
  pub tells : told ≡ Some now
  pub asked : List Order
  pub only : now ≡ after_starts t asked
  pub orders : List Placed
  pub added : now.orders ≡ t.orders ++ orders
  pub before : AreBefore t.finished orders
  pub finished : now.finished ≡ t.finished
  pub running : now.running ≡ t.running ++ with_slot (finite.get new j) []
  pub same : SameBut j old new

-- No child was started.
none_started : (t : ChildTrace) (old : Slots) (j : ℕ) (new : Slots) (told : Option ChildTrace) → told ≡ Some t → SameBut j old new → with_slot (finite.get new j) [] ≡ [] → IsOneStart t old j new told
none_started t old j new told tells same rests = record {
  now = t;
  tells = tells;
  asked = [];
  only = refl;
  orders = [];
  added = sym (append-nil t.orders);
  before = tt;
  finished = refl;
  running = sym (ap (λ ns. t.running ++ ns) rests ∙ append-nil t.running);
  same = same;
}

-- The answers to come decide whether it was started.
started_one : (t : ChildTrace) (order : Order) (b : Bool) (n : ℕ) (old own : Slots) (j : ℕ) (new : Slots) (told : Option ChildTrace) → IsOwn old j own → new ≡ put_progress own j (progress_after b n) → IsStartOf t order b n told → IsOneStart t old j new told
started_one t order b n old own j new told is put start = by_answer t.starts refl
  where
    here : finite.get new j ≡ Some (with_progress (slot_in own j) (progress_after b n))
    here = ap (λ m. finite.get m j) put ∙ get_own own j (with_progress (slot_in own j) (progress_after b n))

    others : SameBut j old new
    others = λ k other. ap (λ m. finite.get m k) put ∙ get_other own j k (with_progress (slot_in own j) (progress_after b n)) other ∙ is.same k other

    shown : (c : Bool) → b ≡ c → with_slot (finite.get new j) [] ≡ with_number (progress_after c n) []
    shown c e = ap (λ o. with_slot o []) here ∙ ap (λ v. with_number (progress_after v n) []) e

    by_answer : (answers : List (Result (Unit {0}) ChildFault)) → t.starts ≡ answers → IsOneStart t old j new told
    by_answer [] e =
        let b_is : b ≡ false = start.answer ∙ ap starts_first e in
        none_started t old j new told (start.told ∙ ap (λ s. Some (started_by t order s)) e) others (shown false b_is)
    by_answer (Ok done ∷ rest) e =
        let b_is : b ≡ true = start.answer ∙ ap starts_first e in
        record {
          now = started_by t order (Ok done ∷ rest);
          tells = start.told ∙ ap (λ s. Some (started_by t order s)) e;
          asked = order ∷ [];
          only = ap (λ s. started_by t order s) (sym e);
          orders = record { order = order; before = t.finished } ∷ [];
          added = refl;
          before = (refl, tt);
          finished = refl;
          running = ap (λ k. t.running ++ k ∷ []) (sym (start.number b_is)) ∙ ap (λ ns. t.running ++ ns) (sym (shown true b_is));
          same = others;
        }
    by_answer (Err fault ∷ rest) e =
        let b_is : b ≡ false = start.answer ∙ ap starts_first e in
        record {
          now = started_by t order (Err fault ∷ rest);
          tells = start.told ∙ ap (λ s. Some (started_by t order s)) e;
          asked = order ∷ [];
          only = ap (λ s. started_by t order s) (sym e);
          orders = record { order = order; before = t.finished } ∷ [];
          added = refl;
          before = (refl, tt);
          finished = refl;
          running = sym (ap (λ ns. t.running ++ ns) (shown false b_is) ∙ append-nil t.running);
          same = others;
        }

-- There is a slot for the stage, and no child was started.
own_started : (t : ChildTrace) (old : Slots) (j : ℕ) (r : Job) (own new : Slots) (told : Option ChildTrace) → r.id ≡ j → IsOwn old r.id own → told ≡ Some t → with_slot (finite.get old j) [] ≡ [] → new ≡ own → IsOneStart t old j new told
own_started t old j r own new told id is tells rests same =
    subst (λ i. IsOneStart t old i new told) id
    (none_started t old r.id new told tells (λ k other. ap (λ m. finite.get m k) same ∙ is.same k other)
    (ap (λ m. with_slot (finite.get m r.id) []) same ∙ is.rests (subst (λ i. with_slot (finite.get old i) [] ≡ []) (sym id) rests)))

-- A job's number is its key.
abbrev pub HasNumbers : State → Type 0
HasNumbers s = (j : ℕ) (r : Job) → job_at s j ≡ Some r → r.id ≡ j

one_launch : (place : Place) (s : State) → HasNumbers s → (t : ChildTrace) (old : Slots) (told : Option ChildTrace) (j : ℕ) (d : Option (List ℕ)) (l : Launch) (new : Slots) (told' : Option ChildTrace) → IsLaunch place s old told j d l new told' → told ≡ Some t → with_slot (finite.get old j) [] ≡ [] → IsOneStart t old j new told'
one_launch place s numbers t old told j d Unlaunched new told' (rests_on, none, same, tells') tells rests =
    none_started t old j new told' (tells' ∙ tells) (λ k other. ap (λ m. finite.get m k) same) (ap (λ m. with_slot (finite.get m j) []) same ∙ rests)
one_launch place s numbers t old told j d (Launched b) new told' (r, q, own, due, input, starts) tells rests =
    let id : r.id ≡ j = numbers j r due.row in
    let is : IsOwn old r.id own = due_own old r own due.due in
    let start : IsStart (Some t) (order_in place own r q (given d)) b starts.number told' = subst (λ o. IsStart o (order_in place own r q (given d)) b starts.number told') tells starts.start in
    subst (λ i. IsOneStart t old i new told') id (started_one t (order_in place own r q (given d)) b starts.number old own r.id new told' is starts.slots start)
one_launch place s numbers t old told j d NoMemory new told' (r, q, own, due, either, tells') tells rests = by_case either
  where
    by_case : ((new ≡ old) ⊎ (new ≡ own)) → IsOneStart t old j new told'
    by_case (inl same) = none_started t old j new told' (tells' ∙ tells) (λ k other. ap (λ m. finite.get m k) same) (ap (λ m. with_slot (finite.get m j) []) same ∙ rests)
    by_case (inr same) = own_started t old j r own new told' (numbers j r due.row) (due_own old r own due.due) (tells' ∙ tells) rests same
one_launch place s numbers t old told j d Disk new told' (r, q, own, due, none, same, tells') tells rests =
    own_started t old j r own new told' (numbers j r due.row) (due_own old r own due.due) (tells' ∙ tells) rests same
one_launch place s numbers t old told j d Dead new told' (none, same, tells') tells rests =
    none_started t old j new told' (tells' ∙ tells) (λ k other. ap (λ m. finite.get m k) same) (ap (λ m. with_slot (finite.get m j) []) same ∙ rests)

pub rest_same : (j : ℕ) (m n : Slots) → SameBut j m n → (js : List ℕ) → is_in j js ≡ false → AllRest m js → AllRest n js
rest_same j m n same [] out rests = tt
rest_same j m n same (k ∷ js) out rests =
    (subst IsTicketless (sym (same k (not_first (k == j) (is_in j js) out))) rests.0, rest_same j m n same js (not_second (k == j) (is_in j js) out) rests.1)

by_slot_append : (o : Option (Slot ℕ)) (ns : List ℕ) → with_slot o ns ≡ with_slot o [] ++ ns
by_slot_append None ns = refl
by_slot_append (Some slot) ns = by_progress slot.progress
  where
    by_progress : (p : Progress ℕ) → with_number p ns ≡ with_number p [] ++ ns
    by_progress (Ready input) = refl
    by_progress (Running n) = refl
    by_progress (Ended finish) = refl

both_before : (f : ℕ) (xs ys : List Placed) → AreBefore f xs → AreBefore f ys → AreBefore f (xs ++ ys)
both_before f [] ys first second = second
both_before f (x ∷ xs) ys first second = (first.0, both_before f xs ys first.1 second)

starts_append : (t : ChildTrace) (first more : List Order) → after_starts t (first ++ more) ≡ after_starts (after_starts t first) more
starts_append t [] more = refl
starts_append t (order ∷ first) more = starts_append (after_start t order) first more

-- The result of all the starts, also for other jobs.
pub record AreAllStarted (t : ChildTrace) (old : Slots) (js : List ℕ) (new : Slots) (told : Option ChildTrace) : Type 0 where
  pub now : ChildTrace
  pub tells : told ≡ Some now
  pub are : AreStarted t new js now
  pub others : (k : ℕ) → is_in k js ≡ false → finite.get new k ≡ finite.get old k

-- All new orders were given before the first finish, whatever failed.
pub all_started : (place : Place) (s : State) → HasNumbers s → (t : ChildTrace) (old : Slots) (told : Option ChildTrace) (ts : List Launching) (new : Slots) (told' : Option ChildTrace) → AreLaunchings place s old told ts new told' → told ≡ Some t → AllRest old (map (λ l. l.job) ts) → AreDistinct (map (λ l. l.job) ts) → AreAllStarted t old (map (λ l. l.job) ts) new told'
all_started place s numbers t old told [] new told' (same, tells') tells rests distinct = record {
  now = t;
  tells = tells' ∙ tells;
  are = record { asked = []; only = refl; orders = []; added = sym (append-nil t.orders); before = tt; finished = refl; running = sym (append-nil t.running) };
  others = λ k out. ap (λ m. finite.get m k) same;
}
all_started place s numbers t old told (l ∷ ts) new told' (launch, launches) tells rests distinct =
    let js : List ℕ = map (λ l. l.job) ts in
    let one = one_launch place s numbers t old told l.job l.document l.launch l.slots l.told launch tells (quiet (finite.get old l.job) rests.0) in
    let more = all_started place s numbers one.now l.slots l.told ts new told' launches one.tells (rest_same l.job old l.slots one.same js distinct.0 rests.1) distinct.1 in
    let here : finite.get new l.job ≡ finite.get l.slots l.job = more.others l.job distinct.0 in
    record {
      now = more.now;
      tells = more.tells;
      are = record {
        asked = one.asked ++ more.are.asked;
        only = more.are.only ∙ ap (λ x. after_starts x more.are.asked) one.only ∙ sym (starts_append t one.asked more.are.asked);
        orders = one.orders ++ more.are.orders;
        added = more.are.added ∙ ap (λ ps. ps ++ more.are.orders) one.added ∙ append_assoc t.orders one.orders more.are.orders;
        before = both_before t.finished one.orders more.are.orders one.before (subst (λ f. AreBefore f more.are.orders) one.finished more.are.before);
        finished = more.are.finished ∙ one.finished;
        running =
            more.are.running
            ∙ ap (λ ns. ns ++ running_in new js) (one.running ∙ ap (λ o. t.running ++ with_slot o []) (sym here))
            ∙ append_assoc t.running (with_slot (finite.get new l.job) []) (running_in new js)
            ∙ ap (λ ns. t.running ++ ns) (sym (by_slot_append (finite.get new l.job) (running_in new js)));
      };
      others = λ k out. more.others k (not_second (l.job == k) (is_in k js) out) ∙ one.same k (turned l.job k (not_first (l.job == k) (is_in k js) out));
    }

one_same : (old own new : Slots) (r : Job) (p : Slot ℕ) → IsOwn old r.id own → new ≡ finite.insert own r.id p → SameBut r.id old new
one_same old own new r p is put = λ k other. ap (λ m. finite.get m k) put ∙ get_other own r.id k p other ∙ is.same k other

-- The start of a stage changes only the slot of its job.
launch_same : (place : Place) (s : State) → HasNumbers s → (old : Slots) (told : Option ChildTrace) (j : ℕ) (d : Option (List ℕ)) (l : Launch) (new : Slots) (told' : Option ChildTrace) → IsLaunch place s old told j d l new told' → SameBut j old new
launch_same place s numbers old told j d Unlaunched new told' (rests_on, none, same, tells) = λ k other. ap (λ m. finite.get m k) same
launch_same place s numbers old told j d (Launched b) new told' (r, q, own, due, input, starts) = λ k other.
    let id : r.id ≡ j = numbers j r due.row in
    one_same old own new r (with_progress (slot_in own r.id) (progress_after b starts.number)) (due_own old r own due.due) starts.slots k (ap (λ i. k == i) id ∙ other)
launch_same place s numbers old told j d NoMemory new told' (r, q, own, due, either, tells) = by_case either
  where
    by_case : ((new ≡ old) ⊎ (new ≡ own)) → SameBut j old new
    by_case (inl same) = λ k other. ap (λ m. finite.get m k) same
    by_case (inr same) = λ k other. ap (λ m. finite.get m k) same ∙ (due_own old r own due.due).same k (ap (λ i. k == i) (numbers j r due.row) ∙ other)
launch_same place s numbers old told j d Disk new told' (r, q, own, due, none, same, tells) = λ k other. ap (λ m. finite.get m k) same ∙ (due_own old r own due.due).same k (ap (λ i. k == i) (numbers j r due.row) ∙ other)
launch_same place s numbers old told j d Dead new told' (none, same, tells) = λ k other. ap (λ m. finite.get m k) same

-- The starts change only the slots of their jobs.
pub launches_same : (place : Place) (s : State) → HasNumbers s → (old : Slots) (told : Option ChildTrace) (ts : List Launching) (new : Slots) (told' : Option ChildTrace) → AreLaunchings place s old told ts new told' → (k : ℕ) → is_in k (map (λ l. l.job) ts) ≡ false → finite.get new k ≡ finite.get old k
launches_same place s numbers old told [] new told' (same, tells) k out = ap (λ m. finite.get m k) same
launches_same place s numbers old told (l ∷ ts) new told' (launch, launches) k out =
    launches_same place s numbers l.slots l.told ts new told' launches k (not_second (l.job == k) (is_in k (map (λ l. l.job) ts)) out)
    ∙ launch_same place s numbers old told l.job l.document l.launch l.slots l.told launch k (turned l.job k (not_first (l.job == k) (is_in k (map (λ l. l.job) ts)) out))

-- An item is not the job that is not among them.
out_at : (j : ℕ) (js : List ℕ) → is_in j js ≡ false → (i : ℕ) → i < length js → (d : ℕ) → (get_or js i d == j) ≡ false
out_at j [] out i lt d = absurd (omega (arith, lt))
out_at j (k ∷ js) out zero lt d = not_first (k == j) (is_in j js) out
out_at j (k ∷ js) out (suc i) lt d = out_at j js (not_second (k == j) (is_in j js) out) i (omega (arith, lt)) d

in_both : (a b : Bool) → a ≡ false → b ≡ false → (a || b) ≡ false
in_both true b first second = absurd (cc)
in_both false b first second = second

-- Each job comes after others only.
pub not_before : (js : List ℕ) → AreDistinct js → (i : ℕ) → i < length js → (d : ℕ) → is_in (get_or js i d) (take i js) ≡ false
not_before [] distinct i lt d = absurd (omega (arith, lt))
not_before (j ∷ js) distinct zero lt d = refl
not_before (j ∷ js) distinct (suc i) lt d =
    in_both (j == get_or js i d) (is_in (get_or js i d) (take i js)) (turned (get_or js i d) j (out_at j js distinct.0 i (omega (arith, lt)) d)) (not_before js distinct.1 i (omega (arith, lt)) d)

pub rests_at : (m : Slots) (js : List ℕ) → AllRest m js → (i : ℕ) → i < length js → (d : ℕ) → IsTicketless (finite.get m (get_or js i d))
rests_at m [] rests i lt d = absurd (omega (arith, lt))
rests_at m (j ∷ js) rests zero lt d = rests.0
rests_at m (j ∷ js) rests (suc i) lt d = rests_at m js rests.1 i (omega (arith, lt)) d

-- So its slot still has no running child before its own start.
pub rests_on : (place : Place) (s : State) → HasNumbers s → (old : Slots) (told : Option ChildTrace) (ts : List Launching) (new : Slots) (told' : Option ChildTrace) → AreLaunchings place s old told ts new told' → (js : List ℕ) → AreDistinct js → AllRest old js → (i : ℕ) → map (λ l. l.job) ts ≡ take i js → i < length js → (j : ℕ) → j ≡ get_or js i j → IsTicketless (finite.get new j)
rests_on place s numbers old told ts new told' launches js distinct rests i so_far lt j is =
    let out : is_in j (map (λ l. l.job) ts) ≡ false = ap (λ k. is_in k (map (λ l. l.job) ts)) is ∙ ap (λ ks. is_in (get_or js i j) ks) so_far ∙ not_before js distinct i lt j in
    subst IsTicketless (sym (launches_same place s numbers old told ts new told' launches j out)) (subst (λ k. IsTicketless (finite.get old k)) (sym is) (rests_at old js rests i lt j))
