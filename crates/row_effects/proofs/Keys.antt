-- Lists in ascending order of their keys: the result of a search, and the effect of inserting or removing an item.
use Rattle.std.proofs.Common.{◌≡◌, ℕ, zero, suc, ◌+◌, ◌<◌, ◌≤◌, Bool, true, false, cond, not, ◌||◌, List, [], ◌∷◌, length, get_or, set, Result, Ok, Err, IfOk, IfErr, inl, inr, refl, sym, ap, subst, ◌∙◌, arith}
use Rattle.std.specs.Prelude.{nat_eq}
use Rattle.std.specs.declared.cmp.Ordering.{Ordering}
use Rattle.std.specs.declared.cmp.Ordering.TheVariants.{Less, Equal, Greater}
use Rattle.std.specs.List.{insert, remove, filter, list_all}
use Rattle.std.specs.List.Sorted.{IsSearchInRange, IsBinarySearchResult, IsNonDecreasingBy}
use Rattle.std.specs.Ordering.{nat_cmp, ordering_index, ordering_reverse, is_lt, is_eq}
use Rattle.std.specs.Cmp.Lexicographic.{slice_cmp, pointwise, texts_ties, nat_list_cmp_total}
use Rattle.std.specs.FinMap.Entries.{by_order}
use Rattle.std.proofs.lemmas.Bool.{and_parts, and_from, or_parts, cases_lt}
use Rattle.std.proofs.lemmas.Cmp.{tied_itself}
use Rattle.std.proofs.lemmas.List.Folds.{list_any_at, list_any_none}
use Rattle.std.proofs.lemmas.List.Sorted.{searchable_from_sorted}
use Rattle.std.proofs.lemmas.List.Sums.{AllPass-from_list_all}
use Rattle.std.proofs.lemmas.Slice.Eq.{bytes_eq-Decides}
use Rattle.row_effects.specs.Keys.{is_ascending, has_key, with_item, IsPosition, IsGap}

abbrev pub compare : List ℕ → List ℕ → Ordering
compare = slice_cmp nat_cmp

abbrev pub same : List ℕ → List ℕ → Bool
same = pointwise nat_eq

less_from : (r : Ordering) → is_lt r ≡ true → r ≡ Less
less_from Less h = refl
less_from Equal h = absurd (cc)
less_from Greater h = absurd (cc)

turned : (a b : List ℕ) (r : Ordering) → compare a b ≡ r → compare b a ≡ ordering_reverse r
turned a b r e = nat_list_cmp_total.antisymm b a ∙ ap ordering_reverse e

-- Keys that compare as equal are equal.
pub one_key : (a b : List ℕ) → compare a b ≡ Equal → a ≡ b
one_key a b e = (bytes_eq-Decides a b).0 (texts_ties a b ∙ ap is_eq e)

tied : (a b : List ℕ) → a ≡ b → compare a b ≡ Equal
tied a b e = subst (λ c. compare a c ≡ Equal) e (tied_itself nat_list_cmp_total a)

pub apart : (a b : List ℕ) (r : Ordering) → compare a b ≡ r → same b a ≡ is_eq (ordering_reverse r)
apart a b r e = texts_ties b a ∙ ap is_eq (turned a b r e)

or_turned : (a b c : Bool) → (a || (b || c)) ≡ ((b || c) || a)
or_turned true true c = refl
or_turned true false true = refl
or_turned true false false = refl
or_turned false true c = refl
or_turned false false true = refl
or_turned false false false = refl

or_again : (a c : Bool) → (a || c) ≡ ((a || c) || a)
or_again true c = refl
or_again false true = refl
or_again false false = refl

or_joined : (a b c : Bool) → (a || (b || c)) ≡ ((a || b) || c)
or_joined true b c = refl
or_joined false b c = refl

lifted : (b : Bool) (n : ℕ) → suc (cond b n (suc n)) ≡ cond b (suc n) (suc (suc n))
lifted true n = refl
lifted false n = refl

module _ {Y : Type 0} (key : Y → List ℕ) where
  abbrev below : List ℕ → List Y → Bool
  below k ys = list_all (λ z. is_lt (compare k (key z))) ys

  below_each : (k : List ℕ) (ys : List Y) → below k ys ≡ true → (j : ℕ) (d : Y) → j < length ys → compare k (key (get_or ys j d)) ≡ Less
  below_each k ys h j d lt = less_from _ (AllPass-from_list_all (λ z. is_lt (compare k (key z))) ys h j d lt)

  pub below_less : (j k : List ℕ) (ys : List Y) → compare j k ≡ Less → below k ys ≡ true → below j ys ≡ true
  below_less j k [] p h = refl
  below_less j k (z ∷ zs) p h =
      let both = and_parts _ _ h in
      and_from _ _ (ap is_lt (nat_list_cmp_total.trans j k (key z) p (less_from _ both.0))) (below_less j k zs p both.1)

  below_with : (k : List ℕ) (y : Y) (ys : List Y) → compare k (key y) ≡ Less → below k ys ≡ true → below k (with_item key y ys) ≡ true
  below_with k y [] p h = and_from _ _ (ap is_lt p) refl
  below_with k y (z ∷ zs) p h =
      let both = and_parts _ _ h in
      let rest = below_with k y zs p both.1 in
      elim (compare (key y) (key z)) as (λ r. below k (by_order r (y ∷ z ∷ zs) (y ∷ zs) (z ∷ with_item key y zs)) ≡ true) [
        | Less ↦ and_from _ _ (ap is_lt p) h
        | Equal ↦ and_from _ _ (ap is_lt p) both.1
        | Greater ↦ and_from _ _ both.0 rest
      ]

  -- Inserting an item preserves the order.
  pub ascends_with : (y : Y) (ys : List Y) → is_ascending key ys ≡ true → is_ascending key (with_item key y ys) ≡ true
  ascends_with y [] h = refl
  ascends_with y (z ∷ zs) h =
      let both = and_parts _ _ h in
      let rest = ascends_with y zs both.1 in
      elim (compare (key y) (key z)) as (λ r. compare (key y) (key z) ≡ r → is_ascending key (by_order r (y ∷ z ∷ zs) (y ∷ zs) (z ∷ with_item key y zs)) ≡ true) [
        | Less ↦ λ p. and_from _ _ (and_from _ _ (ap is_lt p) (below_less (key y) (key z) zs p both.0)) h
        | Equal ↦ λ p. and_from _ _ (subst (λ k. below k zs ≡ true) (sym (one_key (key y) (key z) p)) both.0) both.1
        | Greater ↦ λ p. and_from _ _ (below_with (key z) y zs (turned (key y) (key z) Greater p) both.0) rest
      ] refl

  below_filter : (k : List ℕ) (p : Y → Bool) (ys : List Y) → below k ys ≡ true → below k (filter p ys) ≡ true
  below_filter k p [] h = refl
  below_filter k p (z ∷ zs) h =
      let both = and_parts _ _ h in
      let rest = below_filter k p zs both.1 in
      elim (p z) as (λ b. below k (cond b (z ∷ filter p zs) (filter p zs)) ≡ true) [ true ↦ and_from _ _ both.0 rest | false ↦ rest ]

  -- Removing items preserves the order.
  pub ascends_filter : (p : Y → Bool) (ys : List Y) → is_ascending key ys ≡ true → is_ascending key (filter p ys) ≡ true
  ascends_filter p [] h = refl
  ascends_filter p (z ∷ zs) h =
      let both = and_parts _ _ h in
      let rest = ascends_filter p zs both.1 in
      elim (p z) as (λ b. is_ascending key (cond b (z ∷ filter p zs) (filter p zs)) ≡ true) [ true ↦ and_from _ _ (below_filter (key z) p zs both.0) rest | false ↦ rest ]

  -- A key below all keys does not occur.
  pub absent_below : (k : List ℕ) (ys : List Y) → below k ys ≡ true → has_key key k ys ≡ false
  absent_below k ys h = list_any_none (λ y. same (key y) k) ys (λ j d lt. apart k _ Less (below_each k ys h j d lt))

  -- One more item, if the key is new.
  pub length_with : (y : Y) (ys : List Y) → is_ascending key ys ≡ true → length (with_item key y ys) ≡ cond (has_key key (key y) ys) (length ys) (suc (length ys))
  length_with y [] h = refl
  length_with y (z ∷ zs) h =
      let both = and_parts _ _ h in
      let rest = length_with y zs both.1 in
      let long = λ (b : Bool) (c : Bool). cond (b || c) (suc (length zs)) (suc (suc (length zs))) in
      let there = has_key key (key y) zs in
      elim (compare (key y) (key z)) as (λ r. compare (key y) (key z) ≡ r → length (by_order r (y ∷ z ∷ zs) (y ∷ zs) (z ∷ with_item key y zs)) ≡ cond (same (key z) (key y) || has_key key (key y) zs) (suc (length zs)) (suc (suc (length zs)))) [
        | Less ↦ λ p. sym (ap (λ b. long b there) (apart (key y) (key z) Less p) ∙ ap (long false) (absent_below (key y) zs (below_less (key y) (key z) zs p both.0)))
        | Equal ↦ λ p. sym (ap (λ b. long b there) (apart (key y) (key z) Equal p))
        | Greater ↦ λ p. ap suc rest ∙ lifted there (length zs) ∙ sym (ap (λ b. long b there) (apart (key y) (key z) Greater p))
      ] refl

  -- The old keys and the new one.
  pub has_with : (y : Y) (ys : List Y) (k : List ℕ) → has_key key k (with_item key y ys) ≡ (has_key key k ys || same (key y) k)
  has_with y [] k = or_turned (same (key y) k) false false
  has_with y (z ∷ zs) k =
      let rest = has_with y zs k in
      elim (compare (key y) (key z)) as (λ r. compare (key y) (key z) ≡ r → has_key key k (by_order r (y ∷ z ∷ zs) (y ∷ zs) (z ∷ with_item key y zs)) ≡ ((same (key z) k || has_key key k zs) || same (key y) k)) [
        | Less ↦ λ p. or_turned (same (key y) k) (same (key z) k) (has_key key k zs)
        | Equal ↦ λ p. or_again (same (key y) k) (has_key key k zs) ∙ ap (λ j. (same j k || has_key key k zs) || same (key y) k) (one_key (key y) (key z) p)
        | Greater ↦ λ p. ap (λ b. same (key z) k || b) rest ∙ or_joined (same (key z) k) (has_key key k zs) (same (key y) k)
      ] refl

  -- The keys are in ascending order.
  rise : (ys : List Y) → is_ascending key ys ≡ true → (i j : ℕ) (d : Y) → i < j → j < length ys → compare (key (get_or ys i d)) (key (get_or ys j d)) ≡ Less
  rise [] h i j d lt in_range = absurd (omega arith)
  rise (y ∷ ys) h i zero d lt in_range = absurd (omega arith)
  rise (y ∷ ys) h zero (suc j) d lt in_range = below_each (key y) ys (and_parts _ _ h).0 j d (omega arith)
  rise (y ∷ ys) h (suc i) (suc j) d lt in_range = rise ys (and_parts _ _ h).1 i j d (omega arith) (omega arith)

  -- So binary search works for every key.
  searchable : (ys : List Y) → is_ascending key ys ≡ true → (k : List ℕ) → IsNonDecreasingBy (λ y. ordering_index (compare (key y) k)) ys
  searchable ys h k = searchable_from_sorted nat_list_cmp_total key ys k (λ i d low high. ap is_lt (turned (key (get_or ys i d)) (key (get_or ys (i + 1) d)) Less (rise ys h i (i + 1) d (omega arith) high)))

  -- Binary search returns the key's position, or the gap for it.
  pub searched : (ys : List Y) → is_ascending key ys ≡ true → (k : List ℕ) (r : Result ℕ ℕ) → IsSearchInRange r (length ys) → IsBinarySearchResult (λ y. compare (key y) k) ys r → record { found : IfOk r (IsPosition key ys k); absent : IfErr r (IsGap key ys k) }
  searched ys h k (Ok at) in_range equal = record { found = record { in_range = in_range; same = λ d. one_key _ _ (equal d) }; absent = tt }
  searched ys h k (Err at) in_range parted = record {
    found = tt;
    absent =
        let p = parted (searchable ys h k) in
        record { in_range = in_range; before = λ j d lt. p.0 j d (omega arith) lt; behind = λ j d le lt. p.1 j d le lt };
  }

  -- A key with a position occurs.
  pub has_place : (ys : List Y) (k : List ℕ) (i : ℕ) → IsPosition key ys k i → has_key key k ys ≡ true
  has_place [] k i at = absurd (omega (arith, at.in_range))
  has_place (y ∷ ys) k i at = list_any_at (λ z. same (key z) k) (y ∷ ys) i y at.in_range ((bytes_eq-Decides _ _).1 (at.same y))

  -- A key with a gap does not occur.
  pub has_gap : (ys : List Y) (k : List ℕ) (i : ℕ) → IsGap key ys k i → has_key key k ys ≡ false
  has_gap ys k i gap = list_any_none (λ y. same (key y) k) ys (λ j d lt. elim (cases_lt j i) [
    | inl under ↦ texts_ties (key (get_or ys j d)) k ∙ ap is_eq (gap.before j d under)
    | inr over ↦ texts_ties (key (get_or ys j d)) k ∙ ap is_eq (gap.behind j d over lt)
  ])

  gap_from : (ys : List Y) (y : Y) (i : ℕ) → i ≤ length ys → ((j : ℕ) (d : Y) → j < i → compare (key y) (key (get_or ys j d)) ≡ Greater) → ((j : ℕ) (d : Y) → i ≤ j → j < length ys → compare (key y) (key (get_or ys j d)) ≡ Less) → with_item key y ys ≡ insert ys i y
  gap_from [] y zero le before behind = refl
  gap_from [] y (suc i) le before behind = absurd (omega arith)
  gap_from (z ∷ zs) y zero le before behind = ap (λ r. by_order r (y ∷ z ∷ zs) (y ∷ zs) (z ∷ with_item key y zs)) (behind 0 z (omega arith) (omega arith))
  gap_from (z ∷ zs) y (suc i) le before behind =
      ap (λ r. by_order r (y ∷ z ∷ zs) (y ∷ zs) (z ∷ with_item key y zs)) (before 0 z (omega arith))
      ∙ ap (λ ws. z ∷ ws) (gap_from zs y i (omega arith) (λ j d lt. before (suc j) d (omega arith)) (λ j d le lt. behind (suc j) d (omega arith) (omega arith)))

  -- A new item is inserted at its gap.
  pub with_gap : (ys : List Y) (y : Y) (i : ℕ) → IsGap key ys (key y) i → with_item key y ys ≡ insert ys i y
  with_gap ys y i gap = gap_from ys y i gap.in_range (λ j d lt. turned (key (get_or ys j d)) (key y) Less (gap.before j d lt)) (λ j d le lt. turned (key (get_or ys j d)) (key y) Greater (gap.behind j d le lt))

  place_from : (ys : List Y) (y : Y) (i : ℕ) (d : Y) → i < length ys → key (get_or ys i d) ≡ key y → ((j : ℕ) → j < i → compare (key y) (key (get_or ys j d)) ≡ Greater) → with_item key y ys ≡ set ys i y
  place_from [] y i d lt is before = absurd (omega arith)
  place_from (z ∷ zs) y zero d lt is before = ap (λ r. by_order r (y ∷ z ∷ zs) (y ∷ zs) (z ∷ with_item key y zs)) (tied _ _ (sym is))
  place_from (z ∷ zs) y (suc i) d lt is before =
      ap (λ r. by_order r (y ∷ z ∷ zs) (y ∷ zs) (z ∷ with_item key y zs)) (before 0 (omega arith))
      ∙ ap (λ ws. z ∷ ws) (place_from zs y i d (omega arith) is (λ j l. before (suc j) (omega arith)))

  -- An item with an existing key replaces the item at its position.
  pub with_place : (ys : List Y) → is_ascending key ys ≡ true → (y : Y) (i : ℕ) → IsPosition key ys (key y) i → with_item key y ys ≡ set ys i y
  with_place ys h y i at = place_from ys y i y at.in_range (at.same y) (λ j lt. turned (key (get_or ys j y)) (key y) Less (subst (λ k. compare (key (get_or ys j y)) k ≡ Less) (at.same y) (rise ys h j i y lt at.in_range)))

  -- Removing a key that does not occur changes nothing.
  pub without_absent : (k : List ℕ) (ys : List Y) → has_key key k ys ≡ false → filter (λ y. not (same (key y) k)) ys ≡ ys
  without_absent k [] h = refl
  without_absent k (z ∷ zs) h =
      let both = or_parts _ _ h in
      ap (λ b. cond (not b) (z ∷ filter (λ y. not (same (key y) k)) zs) (filter (λ y. not (same (key y) k)) zs)) both.0
      ∙ ap (λ ws. z ∷ ws) (without_absent k zs both.1)

  -- Removing a key that occurs removes the item at its position.
  pub without_place : (ys : List Y) → is_ascending key ys ≡ true → (k : List ℕ) (i : ℕ) → IsPosition key ys k i → filter (λ y. not (same (key y) k)) ys ≡ remove ys i
  without_place [] h k i at = absurd (omega (arith, at.in_range))
  without_place (y ∷ ys) h k zero at =
      let own : same (key y) k ≡ true = (bytes_eq-Decides _ _).1 (at.same y) in
      ap (λ b. cond (not b) (y ∷ filter (λ y. not (same (key y) k)) ys) (filter (λ y. not (same (key y) k)) ys)) own
      ∙ without_absent k ys (subst (λ j. has_key key j ys ≡ false) (at.same y) (absent_below (key y) ys (and_parts _ _ h).0))
  without_place (y ∷ ys) h k (suc i) at =
      let less : compare (key y) k ≡ Less = subst (λ j. compare (key y) j ≡ Less) (at.same y) (rise (y ∷ ys) h 0 (suc i) y (omega arith) at.in_range) in
      let other : same (key y) k ≡ false = texts_ties (key y) k ∙ ap is_eq less in
      ap (λ b. cond (not b) (y ∷ filter (λ y. not (same (key y) k)) ys) (filter (λ y. not (same (key y) k)) ys)) other
      ∙ ap (λ ws. y ∷ ws) (without_place ys (and_parts _ _ h).1 k i (record { in_range = omega (arith, at.in_range); same = λ d. at.same d }))
