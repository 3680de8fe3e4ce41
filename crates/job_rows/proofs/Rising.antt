-- Elements in ascending order of their keys: the result of a search, and the effect of a change at that position.
use Rattle.std.proofs.Common.{◌≡◌, ℕ, zero, suc, ◌+◌, ◌<◌, ◌≤◌, Bool, true, false, cond, ◌&&◌, IsTrue, List, [], ◌∷◌, length, get_or, set, map, Some, None, Result, Ok, Err, IfOk, IfErr, inl, inr, refl, sym, ap, subst, ◌∙◌, arith}
use Rattle.std.specs.Prelude.{T}
use Rattle.std.specs.declared.cmp.Ordering.{Ordering}
use Rattle.std.specs.declared.cmp.Ordering.TheVariants.{Less, Equal, Greater}
use Rattle.std.specs.List.{insert}
use Rattle.std.specs.List.Sorted.{IsSearchInRange, IsBinarySearchResult, IsNonDecreasingBy}
use Rattle.std.specs.Ordering.{ordering_index, ordering_reverse, is_lt, is_eq}
use Rattle.std.specs.Cmp.{IsTotalOrder}
use Rattle.std.specs.FinMap.Entries.{put, find, is_sorted, below_all, by_order, is_sorted-put}
use Rattle.std.proofs.lemmas.List.Sorted.{searchable_from_sorted}
use Rattle.std.proofs.lemmas.Bool.{cases_lt}
use Rattle.job_rows.specs.RowPositions.{IsPosition, IsGap}

pub t_from : (b : Bool) → IsTrue b → T b
t_from true h = tt
t_from false h = absurd (cc)

pub true_from : (b : Bool) → T b → IsTrue b
true_from true h = refl
true_from false h = absurd h

pub first_of : (a b : Bool) → T (a && b) → T a
first_of true b h = tt
first_of false b h = h

pub second_of : (a b : Bool) → T (a && b) → T b
second_of true b h = h
second_of false b h = absurd h

pub both_from : (a b : Bool) → T a → T b → T (a && b)
both_from true b h k = k
both_from false b h k = h

pub less_from : (o : Ordering) → T (is_lt o) → o ≡ Less
less_from Less h = refl
less_from Equal h = absurd h
less_from Greater h = absurd h

module _ {K Y X : Type 0} (R : K → K → Ordering) (o : IsTotalOrder R) (key : Y → K) (value : Y → X) where
  abbrev entries_of : List Y → List (K × X)
  entries_of ys = map (λ y. (key y, value y)) ys

  -- A key below all keys is below each of them.
  below_each : (k : K) (ys : List Y) → T (below_all R k (entries_of ys)) → (j : ℕ) (d : Y) → j < length ys → R k (key (get_or ys j d)) ≡ Less
  below_each k [] h j d lt = absurd (omega arith)
  below_each k (y ∷ ys) h zero d lt = less_from _ (first_of _ _ h)
  below_each k (y ∷ ys) h (suc j) d lt = below_each k ys (second_of _ _ h) j d (omega arith)

  -- The keys are in ascending order.
  pub rise : (ys : List Y) → T (is_sorted R (entries_of ys)) → (i j : ℕ) (d : Y) → i < j → j < length ys → R (key (get_or ys i d)) (key (get_or ys j d)) ≡ Less
  rise [] h i j d lt in_range = absurd (omega arith)
  rise (y ∷ ys) h i zero d lt in_range = absurd (omega arith)
  rise (y ∷ ys) h zero (suc j) d lt in_range = below_each (key y) ys (first_of _ _ h) j d (omega arith)
  rise (y ∷ ys) h (suc i) (suc j) d lt in_range = rise ys (second_of _ _ h) i j d (omega arith) (omega arith)

  turned : (x y : K) (r : Ordering) → R x y ≡ r → R y x ≡ ordering_reverse r
  turned x y r e = o.antisymm y x ∙ ap ordering_reverse e

  -- So binary search works for every key.
  searchable : (ys : List Y) → T (is_sorted R (entries_of ys)) → (k : K) → IsNonDecreasingBy (λ y. ordering_index (R (key y) k)) ys
  searchable ys h k = searchable_from_sorted o key ys k (λ i d low high. ap is_lt (turned _ _ Less (rise ys h i (i + 1) d (omega arith) high)))

  -- Binary search returns the key's position, or the gap for it.
  pub searched : (ys : List Y) → IsTrue (is_sorted R (entries_of ys)) → (k : K) (r : Result ℕ ℕ) → IsSearchInRange r (length ys) → IsBinarySearchResult (λ y. R (key y) k) ys r → record { found : IfOk r (IsPosition R key ys k); absent : IfErr r (IsGap R key ys k) }
  searched ys h k (Ok at) in_range equal = record { found = record { in_range = in_range; same = equal }; absent = tt }
  searched ys h k (Err at) in_range parted = record {
    found = tt;
    absent =
        let p = parted (searchable ys (t_from _ h) k) in
        record { in_range = in_range; before = λ j d lt. p.0 j d (omega arith) lt; behind = λ j d le lt. p.1 j d le lt };
  }

  -- Before the key's position the keys are smaller.
  before_place : (ys : List Y) → T (is_sorted R (entries_of ys)) → (k : K) (i : ℕ) → IsPosition R key ys k i → (j : ℕ) (d : Y) → j < i → R k (key (get_or ys j d)) ≡ Greater
  before_place ys h k i at j d lt = sym (o.congr _ _ _ (at.same d)) ∙ turned _ _ Less (rise ys h j i d lt at.in_range)

  find_from : (ys : List Y) (k : K) (i : ℕ) (d : Y) → i < length ys → R k (key (get_or ys i d)) ≡ Equal → ((j : ℕ) → j < i → R k (key (get_or ys j d)) ≡ Greater) → find R k (entries_of ys) ≡ Some (value (get_or ys i d))
  find_from [] k i d lt same before = absurd (omega arith)
  find_from (y ∷ ys) k zero d lt same before = ap (λ r. cond (is_eq r) (Some (value y)) (find R k (entries_of ys))) same
  find_from (y ∷ ys) k (suc i) d lt same before = ap (λ r. cond (is_eq r) (Some (value y)) (find R k (entries_of ys))) (before 0 (omega arith)) ∙ find_from ys k i d (omega arith) same (λ j l. before (suc j) (omega arith))

  -- The row at the key's position is found.
  pub find_place : (ys : List Y) → IsTrue (is_sorted R (entries_of ys)) → (k : K) (i : ℕ) (d : Y) → IsPosition R key ys k i → find R k (entries_of ys) ≡ Some (value (get_or ys i d))
  find_place ys h k i d at = find_from ys k i d at.in_range (turned _ _ Equal (at.same d)) (λ j lt. before_place ys (t_from _ h) k i at j d lt)

  find_none : (ys : List Y) (k : K) → ((j : ℕ) (d : Y) → j < length ys → is_eq (R k (key (get_or ys j d))) ≡ false) → find R k (entries_of ys) ≡ None
  find_none [] k apart = refl
  find_none (y ∷ ys) k apart = ap (λ b. cond b (Some (value y)) (find R k (entries_of ys))) (apart 0 y (omega arith)) ∙ find_none ys k (λ j d lt. apart (suc j) d (omega arith))

  -- A key with a gap is not found.
  pub find_gap : (ys : List Y) (k : K) (i : ℕ) → IsGap R key ys k i → find R k (entries_of ys) ≡ None
  find_gap ys k i gap = find_none ys k (λ j d lt. elim (cases_lt j i) [
    | inl below ↦ ap is_eq (turned _ _ Less (gap.before j d below))
    | inr above ↦ ap is_eq (turned _ _ Greater (gap.behind j d above lt))
  ])

  put_gap_from : (ys : List Y) (y : Y) (i : ℕ) → i ≤ length ys → ((j : ℕ) (d : Y) → j < i → R (key y) (key (get_or ys j d)) ≡ Greater) → ((j : ℕ) (d : Y) → i ≤ j → j < length ys → R (key y) (key (get_or ys j d)) ≡ Less) → put R (key y) (value y) (entries_of ys) ≡ entries_of (insert ys i y)
  put_gap_from [] y zero le before behind = refl
  put_gap_from [] y (suc i) le before behind = absurd (omega arith)
  put_gap_from (z ∷ ys) y zero le before behind = ap (λ r. by_order r ((key y, value y) ∷ entries_of (z ∷ ys)) ((key z, value y) ∷ entries_of ys) ((key z, value z) ∷ put R (key y) (value y) (entries_of ys))) (behind 0 z (omega arith) (omega arith))
  put_gap_from (z ∷ ys) y (suc i) le before behind = ap (λ r. by_order r ((key y, value y) ∷ entries_of (z ∷ ys)) ((key z, value y) ∷ entries_of ys) ((key z, value z) ∷ put R (key y) (value y) (entries_of ys))) (before 0 z (omega arith)) ∙ ap (λ es. (key z, value z) ∷ es) (put_gap_from ys y i (omega arith) (λ j d lt. before (suc j) d (omega arith)) (λ j d l lt. behind (suc j) d (omega arith) (omega arith)))

  -- A row is inserted at its gap.
  put_gap : (ys : List Y) (y : Y) (i : ℕ) → IsGap R key ys (key y) i → put R (key y) (value y) (entries_of ys) ≡ entries_of (insert ys i y)
  put_gap ys y i gap = put_gap_from ys y i gap.in_range (λ j d lt. turned _ _ Less (gap.before j d lt)) (λ j d le lt. turned _ _ Greater (gap.behind j d le lt))

  put_place_from : (ys : List Y) (y : Y) (k : K) (i : ℕ) (d : Y) → i < length ys → R k (key (get_or ys i d)) ≡ Equal → key (get_or ys i d) ≡ key y → ((j : ℕ) → j < i → R k (key (get_or ys j d)) ≡ Greater) → put R k (value y) (entries_of ys) ≡ entries_of (set ys i y)
  put_place_from [] y k i d lt same is before = absurd (omega arith)
  put_place_from (z ∷ ys) y k zero d lt same is before = ap (λ r. by_order r ((k, value y) ∷ entries_of (z ∷ ys)) ((key z, value y) ∷ entries_of ys) ((key z, value z) ∷ put R k (value y) (entries_of ys))) same ∙ ap (λ q. (q, value y) ∷ entries_of ys) is
  put_place_from (z ∷ ys) y k (suc i) d lt same is before = ap (λ r. by_order r ((k, value y) ∷ entries_of (z ∷ ys)) ((key z, value y) ∷ entries_of ys) ((key z, value z) ∷ put R k (value y) (entries_of ys))) (before 0 (omega arith)) ∙ ap (λ es. (key z, value z) ∷ es) (put_place_from ys y k i d (omega arith) same is (λ j l. before (suc j) (omega arith)))

  -- A row replaces the one at its position.
  put_place : (ys : List Y) → T (is_sorted R (entries_of ys)) → (y : Y) (k : K) (i : ℕ) (d : Y) → IsPosition R key ys k i → key (get_or ys i d) ≡ key y → put R k (value y) (entries_of ys) ≡ entries_of (set ys i y)
  put_place ys h y k i d at is = put_place_from ys y k i d at.in_range (turned _ _ Equal (at.same d)) is (λ j lt. before_place ys h k i at j d lt)

  pub sorted_insert : (ys : List Y) → IsTrue (is_sorted R (entries_of ys)) → (y : Y) (i : ℕ) → IsGap R key ys (key y) i → IsTrue (is_sorted R (entries_of (insert ys i y)))
  sorted_insert ys h y i gap = true_from _ (subst (λ es. T (is_sorted R es)) (put_gap ys y i gap) (is_sorted-put R o (key y) (value y) (entries_of ys) (t_from _ h)))

  pub sorted_set : (ys : List Y) → IsTrue (is_sorted R (entries_of ys)) → (y : Y) (k : K) (i : ℕ) (d : Y) → IsPosition R key ys k i → key (get_or ys i d) ≡ key y → IsTrue (is_sorted R (entries_of (set ys i y)))
  sorted_set ys h y k i d at is = true_from _ (subst (λ es. T (is_sorted R es)) (put_place ys (t_from _ h) y k i d at is) (is_sorted-put R o k (value y) (entries_of ys) (t_from _ h)))
