-- A list with one more entry: its entries, and its startable entries.
use Rattle.std.proofs.Common.{◌≡◌, zero, suc, ◌+◌, ◌-◌, ◌<◌, ◌≤◌, ◌⊎◌, ◌↔◌, Bool, true, false, cond, List, [], ◌∷◌, ◌++◌, length, inl, inr, refl, sym, ap, subst, ◌∙◌, arith, length-append, IsTrue}
use Rattle.std.proofs.Math.Logic.{⊎_elim}
use Rattle.std.proofs.lemmas.Bool.{both_ways}
use Rattle.std.proofs.lemmas.List.{get_or_at}
use Rattle.std.proofs.lemmas.List.Edits.{insert-append_right, remove-append_right}
use Rattle.std.proofs.lemmas.List.Elements.{filter-append, filter_passes, All-contains, All-filter, All-contains_itself, Contains-append_left, Contains-append_right, Contains-append_cases, Contains-push}
use Rattle.std.proofs.lemmas.List.Kept.{AllPairs-filter}
use Rattle.std.proofs.lemmas.List.Sums.{length-filter, count_by-le-length}
use Rattle.std.specs.List.{Contains, filter, insert, remove}
use Rattle.queue_sched.specs.WaitingIndex.{goes_before, InOrder}
use Rattle.queue_sched.specs.OrderedEntries.{IsMore, IsExchange}
use Rattle.queue_sched.specs.declared.entry.Entry.{Entry}
use Rattle.queue_sched.proofs.Ordered.{single}
use Rattle.queue_sched.proofs.TurnOrder.{itself, onward, has_more, has_less, in_order_remove}

-- An entry is inserted or removed between two parts.
put_between : (fs gs : List Entry) (e : Entry) → insert (fs ++ gs) (length fs) e ≡ fs ++ e ∷ gs
put_between fs gs e =
    let none : length fs - length fs ≡ 0 = omega arith in
    insert-append_right fs gs (length fs) (length fs) e refl (omega arith) ∙ ap (λ n. fs ++ insert gs n e) none

take_between : (fs gs : List Entry) (e : Entry) → remove (fs ++ e ∷ gs) (length fs) ≡ fs ++ gs
take_between fs gs e =
    let none : length fs - length fs ≡ 0 = omega arith in
    remove-append_right fs (e ∷ gs) (length fs) (length fs) refl (omega arith) ∙ ap (λ n. fs ++ remove (e ∷ gs) n) none

module _ (e : Entry) (less more : List Entry) (is : IsMore e less more) where
  pub has_it : Contains more e
  has_it = subst (λ l. Contains l e) (sym is.more_is) (Contains-append_right is.front (e ∷ is.back) e (Contains-append_left (e ∷ []) is.back e (Contains-push [] e)))

  pub has_one_more : (f : Entry) → Contains more f ↔ (Contains less f ⊎ (f ≡ e))
  has_one_more f =
      subst (λ l. Contains more f ↔ (Contains l f ⊎ (f ≡ e))) (sym is.less_is)
      (subst (λ l. Contains l f ↔ (Contains (is.front ++ is.back) f ⊎ (f ≡ e))) (put_between is.front is.back e ∙ sym is.more_is) (has_more (is.front ++ is.back) e (length is.front) f))

  pub has_one_less : InOrder more → (f : Entry) → Contains less f ↔ (Contains more f × ¬ (f ≡ e))
  has_one_less order f =
      let inside : length is.front < length (is.front ++ e ∷ is.back) = omega (arith, length-append is.front (e ∷ is.back)) in
      subst (λ l. Contains l f ↔ (Contains more f × ¬ (f ≡ e))) (take_between is.front is.back e ∙ sym is.less_is)
      (subst (λ l. Contains (remove (is.front ++ e ∷ is.back) (length is.front)) f ↔ (Contains l f × ¬ (f ≡ e))) (sym is.more_is)
      (has_less (is.front ++ e ∷ is.back) e (length is.front) inside (get_or_at is.front e is.back e (length is.front) refl) (subst InOrder is.more_is order) f))

  pub in_order_less : InOrder more → InOrder less
  in_order_less order =
      let inside : length is.front < length (is.front ++ e ∷ is.back) = omega (arith, length-append is.front (e ∷ is.back)) in
      subst InOrder (take_between is.front is.back e ∙ sym is.less_is)
      (in_order_remove (is.front ++ e ∷ is.back) e (length is.front) inside (get_or_at is.front e is.back e (length is.front) refl) (subst InOrder is.more_is order))

  pub counts_one_more : length more ≡ length less + 1
  counts_one_more = omega (arith, ap length is.less_is, ap length is.more_is, length-append is.front is.back, length-append is.front (e ∷ is.back))

-- An entry that passes is in the filtered list.
kept : (p : Entry → Bool) (xs : List Entry) (e : Entry) → Contains xs e → p e ≡ true → Contains (filter p xs) e
kept p [] e there passes = absurd (omega (arith, there.1))
kept p (x ∷ xs) e there passes =
    ⊎_elim
    (λ (one : Contains (x ∷ []) e).
    subst (λ (f : Entry). Contains (filter p (f ∷ xs)) e) (single x e one)
    (subst (λ b. Contains (cond b (e ∷ filter p xs) (filter p xs)) e) (sym passes) (Contains-append_left (e ∷ []) (filter p xs) e (Contains-push [] e))))
    (λ (rest : Contains xs e). either (p x) (kept p xs e rest passes))
    (Contains-append_cases (x ∷ []) xs e there)
  where
    either : (b : Bool) → Contains (filter p xs) e → Contains (cond b (x ∷ filter p xs) (filter p xs)) e
    either true old = Contains-append_right (x ∷ []) (filter p xs) e old
    either false old = old

-- Only entries that pass are in the filtered list.
pub has_passed : (p : Entry → Bool) (xs : List Entry) (e : Entry) → Contains (filter p xs) e ↔ (Contains xs e × (p e ≡ true))
has_passed p xs e = (
  λ there. (All-contains (Contains xs) (filter p xs) e (All-filter p (Contains xs) xs (All-contains_itself xs)) there, All-contains (λ f. p f ≡ true) (filter p xs) e (filter_passes p xs) there),
  λ both. kept p xs e both.0 both.1,
)

pub fewer : (p : Entry → Bool) (xs : List Entry) → length (filter p xs) ≤ length xs
fewer p xs = omega (arith, length-filter p xs, count_by-le-length p xs)

pub in_order_passed : (p : Entry → Bool) (xs : List Entry) → InOrder xs → InOrder (filter p xs)
in_order_passed p xs order = AllPairs-filter (λ f g. IsTrue (goes_before f g)) p xs order

-- The parts of a list in order.
later : (x : Entry) (xs : List Entry) → InOrder (x ∷ xs) → (f : Entry) → Contains xs f → goes_before x f ≡ true
later x xs order f there = subst (λ g. goes_before x g ≡ true) there.2 (order zero (suc there.0) f (omega arith) (omega (arith, there.1)))

rest_in_order : (x : Entry) (xs : List Entry) → InOrder (x ∷ xs) → InOrder xs
rest_in_order x xs order i j d lt inside = order (suc i) (suc j) d (omega (arith, lt)) (omega (arith, inside))

first_there : (x : Entry) (xs : List Entry) → Contains (x ∷ xs) x
first_there x xs = Contains-append_left (x ∷ []) xs x (Contains-push [] x)

-- Lists in order with the same entries are equal.
pub same_list : (xs ys : List Entry) → InOrder xs → InOrder ys → ((e : Entry) → Contains xs e → Contains ys e) → ((e : Entry) → Contains ys e → Contains xs e) → xs ≡ ys
same_list [] [] o o' to from = refl
same_list [] (y ∷ ys) o o' to from = absurd (omega (arith, (from y (first_there y ys)).1))
same_list (x ∷ xs) [] o o' to from = absurd (omega (arith, (to x (first_there x xs)).1))
same_list (x ∷ xs) (y ∷ ys) o o' to from =
    ap (λ z. z ∷ xs) same ∙ ap (λ l. y ∷ l) (same_list xs ys (rest_in_order x xs o) (rest_in_order y ys o') inner outer)
  where
    same : x ≡ y
    same =
        ⊎_elim (λ (one : Contains (y ∷ []) x). single y x one)
        (λ (here : Contains ys x).
        ⊎_elim (λ (one : Contains (x ∷ []) y). sym (single x y one))
        (λ (there : Contains xs y). absurd (both_ways (goes_before x x) (itself x) (onward x y x (later x xs o y there) (later y ys o' x here))))
        (Contains-append_cases (x ∷ []) xs y (from y (first_there y ys))))
        (Contains-append_cases (y ∷ []) ys x (to x (first_there x xs)))

    inner : (e : Entry) → Contains xs e → Contains ys e
    inner e there =
        ⊎_elim
        (λ (one : Contains (y ∷ []) e).
        absurd (both_ways (goes_before x x) (itself x) (subst (λ g. goes_before x g ≡ true) (single y e one ∙ sym same) (later x xs o e there))))
        (λ (rest : Contains ys e). rest)
        (Contains-append_cases (y ∷ []) ys e (to e (Contains-append_right (x ∷ []) xs e there)))

    outer : (e : Entry) → Contains ys e → Contains xs e
    outer e there =
        ⊎_elim
        (λ (one : Contains (x ∷ []) e).
        absurd (both_ways (goes_before y y) (itself y) (subst (λ g. goes_before y g ≡ true) (single x e one ∙ same) (later y ys o' e there))))
        (λ (rest : Contains xs e). rest)
        (Contains-append_cases (x ∷ []) xs e (from e (Contains-append_right (y ∷ []) ys e there)))

-- The startable entries of a list with one more entry.
module _ (p : Entry → Bool) (e : Entry) (less more : List Entry) (is : IsMore e less more) (order : InOrder more) where
  -- An entry that does not pass.
  pub passed_over : p e ≡ false → filter p less ≡ filter p more
  passed_over fails =
      ap (filter p) is.less_is
      ∙ filter-append p is.front is.back
      ∙ ap (λ b. filter p is.front ++ cond b (e ∷ filter p is.back) (filter p is.back)) (sym fails)
      ∙ sym (filter-append p is.front (e ∷ is.back))
      ∙ ap (filter p) (sym is.more_is)

  -- The filtered list has one more entry, too.
  pub put_among : (ready ready' : List Entry) → ready ≡ filter p less → IsMore e ready ready' → InOrder ready' → p e ≡ true → ready' ≡ filter p more
  put_among ready ready' step is' order' passes = same_list ready' (filter p more) order' (in_order_passed p more order) to from
    where
      to : (f : Entry) → Contains ready' f → Contains (filter p more) f
      to f there =
          (has_passed p more f).1
          (⊎_elim
          (λ (old : Contains ready f). let both = (has_passed p less f).0 (subst (λ l. Contains l f) step old) in ((has_one_more e less more is f).1 (inl both.0), both.1))
          (λ (same : f ≡ e). ((has_one_more e less more is f).1 (inr same), subst (λ g. p g ≡ true) (sym same) passes))
          ((has_one_more e ready ready' is' f).0 there))

      from : (f : Entry) → Contains (filter p more) f → Contains ready' f
      from f there =
          let both = (has_passed p more f).0 there in
          (has_one_more e ready ready' is' f).1
          (⊎_elim
          (λ (old : Contains less f). inl (subst (λ l. Contains l f) (sym step) ((has_passed p less f).1 (old, both.1))))
          (λ (same : f ≡ e). inr same)
          ((has_one_more e less more is f).0 both.0))

  -- The filtered list has one less entry, too.
  pub take_among : (ready ready' : List Entry) → ready ≡ filter p more → IsMore e ready' ready → InOrder ready → InOrder ready' → ready' ≡ filter p less
  take_among ready ready' step is' was order' = same_list ready' (filter p less) order' (in_order_passed p less (in_order_less e less more is order)) to from
    where
      to : (f : Entry) → Contains ready' f → Contains (filter p less) f
      to f there =
          let old = (has_one_less e ready' ready is' was f).0 there in
          let both = (has_passed p more f).0 (subst (λ l. Contains l f) step old.0) in
          (has_passed p less f).1 ((has_one_less e less more is order f).1 (both.0, old.1), both.1)

      from : (f : Entry) → Contains (filter p less) f → Contains ready' f
      from f there =
          let both = (has_passed p less f).0 there in
          let old = (has_one_less e less more is order f).0 both.0 in
          (has_one_less e ready' ready is' was f).1 (subst (λ l. Contains l f) (sym step) ((has_passed p more f).1 (old.0, both.1)), old.1)

  -- The same, if it is known for both cases.
  pub drop_among : (ready ready' : List Entry) → ready ≡ filter p more → (p e ≡ true → IsMore e ready' ready) → (p e ≡ false → ready' ≡ ready) → InOrder ready' → ready' ≡ filter p less
  drop_among ready ready' step taken same order' = by (p e) refl
    where
      by : (b : Bool) → p e ≡ b → ready' ≡ filter p less
      by true passes = take_among ready ready' step (taken passes) (subst InOrder (sym step) (in_order_passed p more order)) order'
      by false fails = same fails ∙ step ∙ sym (passed_over fails)

-- An entry is replaced by another one of the same job.
module _ (from to : Entry) (old new : List Entry) (is : IsExchange from to old new) where
  pub has_exchanged : InOrder old → (f : Entry) → Contains new f ↔ ((Contains old f × ¬ (f ≡ from)) ⊎ (f ≡ to))
  has_exchanged order f = (
    λ there. ⊎_elim (λ (rest : Contains is.rest f). inl ((has_one_less from is.rest old is.was order f).0 rest)) (λ (same : f ≡ to). inr same) ((has_one_more to is.rest new is.is f).0 there),
    λ either. (has_one_more to is.rest new is.is f).1 (⊎_elim (λ (both : Contains old f × ¬ (f ≡ from)). inl ((has_one_less from is.rest old is.was order f).1 both)) (λ (same : f ≡ to). inr same) either),
  )

  pub as_many : length new ≡ length old
  as_many = counts_one_more to is.rest new is.is ∙ sym (counts_one_more from is.rest old is.was)

-- Two tests that agree on each element result in the same filtered list.
pub agreed : (p q : Entry → Bool) (xs : List Entry) → ((e : Entry) → Contains xs e → p e ≡ q e) → filter p xs ≡ filter q xs
agreed p q [] same = refl
agreed p q (x ∷ xs) same =
    ap (λ b. cond b (x ∷ filter p xs) (filter p xs)) (same x (first_there x xs))
    ∙ ap (λ l. cond (q x) (x ∷ l) l) (agreed p q xs (λ e there. same e (Contains-append_right (x ∷ []) xs e there)))
