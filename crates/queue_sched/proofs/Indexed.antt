-- The first entry that may be started, and the next job.
use Rattle.std.proofs.Common.{◌≡◌, ℕ, ◌<◌, Bool, true, false, List, [], ◌∷◌, length, get_or, slice_get, Some, None, refl, sym, ap, subst, ◌∙◌, arith, IsTrue}
use Rattle.std.proofs.Math.Logic.{⊎_elim}
use Rattle.std.proofs.lemmas.Bool.{both_ways, and_parts, and_from, false_from_ne_true, cases_order}
use Rattle.std.proofs.lemmas.List.{get_or_default}
use Rattle.std.proofs.lemmas.List.Elements.{filter_passes}
use Rattle.std.proofs.lemmas.List.Kept.{AllPairs-filter}
use Rattle.std.specs.List.{Contains, filter}
use Rattle.spool_types.specs.declared.phase.Phase.{Phase}
use Rattle.spool_types.specs.declared.phase.Phase.TheVariants.{Incoming, Waiting, Processing, Completed, Canceled, Aborted}
use Rattle.spool_types.specs.Busy.{is_of}
use Rattle.spool_types.specs.Phases.{is_waiting, hold_of}
use Rattle.spool_types.specs.State.{Job}
use Rattle.queue_sched.specs.WaitingIndex.{Waits, InOrder, IsFirstStartable, NoneIsStartable, IsIndexOf, entry_of, goes_before, is_startable, not_before_of}
use Rattle.queue_sched.specs.Next.{may_start, is_ready, is_free, is_ready_of, is_eligible, IsNextJob}
use Rattle.queue_sched.specs.declared.entry.Entry.{Entry}
use Rattle.queue_sched.proofs.More.{has_passed}
use Rattle.queue_sched.proofs.TurnOrder.{itself, onward}

-- A waiting job is ready if its entry may be started.
same_test : (now : ℕ) (phase : Phase) → IsTrue (is_waiting phase) → may_start now (hold_of phase) (not_before_of phase) ≡ is_ready now phase
same_test now (Waiting hold not_before first) waits = refl
same_test now (Incoming hold) waits = absurd (both_ways false refl waits)
same_test now (Processing attempt stage stages) waits = absurd (both_ways false refl waits)
same_test now Completed waits = absurd (both_ways false refl waits)
same_test now Canceled waits = absurd (both_ways false refl waits)
same_test now (Aborted reason) waits = absurd (both_ways false refl waits)

ready_waits : (now : ℕ) (phase : Phase) → IsTrue (is_ready now phase) → IsTrue (is_waiting phase)
ready_waits now (Waiting hold not_before first) ready = refl
ready_waits now (Incoming hold) ready = absurd (both_ways false refl ready)
ready_waits now (Processing attempt stage stages) ready = absurd (both_ways false refl ready)
ready_waits now Completed ready = absurd (both_ways false refl ready)
ready_waits now Canceled ready = absurd (both_ways false refl ready)
ready_waits now (Aborted reason) ready = absurd (both_ways false refl ready)

module _ (jobs : List Job) (name : List ℕ) (stopped : Bool) (w : Waits) (index : IsIndexOf jobs name w.items) where
  -- An eligible job has an entry, which may be started.
  entered : (q : Job) → Contains jobs q → IsTrue (is_eligible jobs name stopped w.moment q) → Contains w.items (entry_of q) × IsTrue (is_startable w.moment (entry_of q))
  entered q there eligible =
      let ready_of = (and_parts (is_free jobs name stopped) (is_ready_of name w.moment q) eligible).1 in
      let parts = and_parts (is_of name q) (is_ready w.moment q.phase) ready_of in
      let waits = ready_waits w.moment q.phase parts.1 in
      (index.each q there (and_from (is_of name q) (is_waiting q.phase) parts.0 waits), same_test w.moment q.phase waits ∙ parts.1)

  pub next_of_index : (e : Entry) → IsTrue (is_free jobs name stopped) → IsFirstStartable w e → (r : Job) × (r.id ≡ e.id) × IsNextJob jobs name stopped w.moment r
  next_of_index e free first =
      let found = index.only e first.there in
      let r = found.0 in
      let parts = and_parts (is_of name r) (is_waiting r.phase) found.2 in
      let ready : IsTrue (is_ready w.moment r.phase) = sym (same_test w.moment r.phase parts.1) ∙ subst (λ f. is_startable w.moment f ≡ true) found.3 first.startable in (
        r,
        ap (λ (f : Entry). f.id) (sym found.3),
        record {
          there = found.1;
          eligible = and_from (is_free jobs name stopped) (is_ready_of name w.moment r) free (and_from (is_of name r) (is_ready w.moment r.phase) parts.0 ready);
          unbeaten = λ q there eligible beats.
              let own = entered q there eligible in
              first.first (entry_of q) own.0 own.1 (subst (λ f. goes_before (entry_of q) f ≡ true) (sym found.3) beats);
        },
      )

  pub none_of_index : NoneIsStartable w → (r : Job) → Contains jobs r → is_eligible jobs name stopped w.moment r ≡ false
  none_of_index none r there =
      false_from_ne_true (is_eligible jobs name stopped w.moment r)
      (λ eligible. let own = entered r there eligible in both_ways (is_startable w.moment (entry_of r)) (none (entry_of r) own.0) own.1)

-- The first of the startable entries.
pub first_of : (w : Waits) (e : Entry) → InOrder w.items → 0 < length (filter (is_startable w.moment) w.items) → get_or (filter (is_startable w.moment) w.items) 0 e ≡ e → IsFirstStartable w e
first_of w e order inside here =
    let p = is_startable w.moment in
    let ready = filter p w.items in
    let kept : InOrder ready = AllPairs-filter (λ f g. IsTrue (goes_before f g)) p w.items order in
    record {
      there = ((has_passed p w.items e).0 (0, inside, here)).0;
      startable = subst (λ f. p f ≡ true) here (filter_passes p w.items 0 e inside);
      first = λ f there starts beats.
          let own = (has_passed p w.items f).1 (there, starts) in
          ⊎_elim
          (λ (same : 0 ≡ own.0).
          let is : e ≡ f = sym here ∙ get_or_default ready 0 e f inside ∙ ap (λ n. get_or ready n f) same ∙ own.2 in
          both_ways (goes_before e e) (itself e) (subst (λ g. goes_before g e ≡ true) (sym is) beats))
          (λ other. ⊎_elim
          (λ (lt : 0 < own.0).
          let before : goes_before e f ≡ true =
          subst (λ g. goes_before g f ≡ true) (sym (get_or_default ready 0 e f inside) ∙ here) (subst (λ g. goes_before (get_or ready 0 f) g ≡ true) own.2 (kept 0 own.0 f lt own.1)) in
          both_ways (goes_before e e) (itself e) (onward e f e before beats))
          (λ (gt : own.0 < 0). absurd (omega arith))
          other)
          (cases_order 0 own.0);
    }

-- If no entry passes, none may be started.
pub none_of : (w : Waits) → length (filter (is_startable w.moment) w.items) ≡ 0 → NoneIsStartable w
none_of w empty e there =
    false_from_ne_true (is_startable w.moment e)
    (λ starts. let own = (has_passed (is_startable w.moment) w.items e).1 (there, starts) in absurd (omega (arith, empty, own.1)))

-- The first element of a list.
pub head_is : (xs : List Entry) (e : Entry) → Some e ≡ slice_get xs 0 → (0 < length xs) × (get_or xs 0 e ≡ e)
head_is [] e is = absurd (cc)
head_is (x ∷ xs) e is = (omega arith, sym (cc))

pub no_head : (xs : List Entry) → None ≡ slice_get xs 0 → length xs ≡ 0
no_head [] is = refl
no_head (x ∷ xs) is = absurd (cc)
