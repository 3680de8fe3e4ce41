-- Elements of lists and of maps.
use Rattle.std.proofs.Common.{◌≡◌, ◌∙◌, zero, suc, ◌<◌, Bool, true, false, cond, List, [], ◌∷◌, length, get_or, map, Some, Option, IsTrue, refl, sym, ap, subst, arith}
use Rattle.std.specs.declared.cmp.Ordering.{Ordering}
use Rattle.std.specs.List.{AllByRecursion, Contains, filter}
use Rattle.std.specs.Ordering.{eq_by_cmp}
use Rattle.std.specs.Cmp.{IsTotalOrder, tied_itself}
use Rattle.std.specs.FinMap as finite
use Rattle.std.proofs.Math.ListN.{get_or-map}
use Rattle.std.proofs.lemmas.List.{get_or_default, length-map}
use Rattle.job_rows.specs.RowPositions.{IsPosition}
use Rattle.job_table.proofs.Changes.{some_same}
use Rattle.job_table.proofs.Rows as rows
use Rattle.job_table.proofs.Tables.{map-same}
use Rattle.spool_core.proofs.ListingLaws.{all_at}

-- ## Elements of a list

pub all_there : {X : Type 0} (P : X → Type 0) (xs : List X) (x : X) → AllByRecursion P xs → Contains xs x → P x
all_there P xs x all there = subst P there.2 (all_at P xs there.0 x there.1 all)

pub map_there : {X Y : Type 0} (f : X → Y) (xs : List X) (x : X) → Contains xs x → Contains (map f xs) (f x)
map_there f xs x there = (there.0, omega (arith, there.1, length-map xs f), get_or-map f xs there.0 x ∙ ap f there.2)

pub later : {X : Type 0} (y : X) (ys : List X) (x : X) → Contains ys x → Contains (y ∷ ys) x
later y ys x there = (suc there.0, omega (arith, there.1), there.2)

module _ {X : Type 0} (p : X → Bool) where
  either_kept : (b : Bool) (y : X) (ys : List X) (x : X) → Contains ys x → Contains (cond b (y ∷ ys) ys) x
  either_kept true y ys x there = later y ys x there
  either_kept false y ys x there = there

  -- An element that passes is kept.
  pub kept : (xs : List X) (x : X) → Contains xs x → p x ≡ true → Contains (filter p xs) x
  kept [] x (k, lt, is) passes = absurd (omega (arith, lt))
  kept (y ∷ xs) x (zero, lt, is) passes = subst (λ b. Contains (cond b (y ∷ filter p xs) (filter p xs)) x) (sym (ap p is ∙ passes)) (0, omega arith, is)
  kept (y ∷ xs) x (suc k, lt, is) passes = either_kept (p y) y (filter p xs) x (kept xs x (k, omega (arith, lt), is) passes)

  first_or_later : (b : Bool) (y : X) (ys zs : List X) (x : X) → p y ≡ b → (Contains zs x → Contains ys x × (p x ≡ true)) → Contains (cond b (y ∷ zs) zs) x → Contains (y ∷ ys) x × (p x ≡ true)
  first_or_later true y ys zs x e rest (zero, lt, is) = ((0, omega arith, is), subst (λ z. p z ≡ true) is e)
  first_or_later true y ys zs x e rest (suc k, lt, is) =
      let found = rest (k, omega (arith, lt), is) in
      (later y ys x found.0, found.1)
  first_or_later false y ys zs x e rest there =
      let found = rest there in
      (later y ys x found.0, found.1)

  -- An element that is kept was in the list, and passes.
  pub unkept : (xs : List X) (x : X) → Contains (filter p xs) x → Contains xs x × (p x ≡ true)
  unkept [] x (k, lt, is) = absurd (omega (arith, lt))
  unkept (y ∷ xs) x there = first_or_later (p y) y xs (filter p xs) x refl (unkept xs x) there

-- ## Values of a map

first_found : {X : Type 0} (b : Bool) (o : Option X) (y : X) (ys : List X) (x : X) → cond b (Some y) o ≡ Some x → (o ≡ Some x → Contains ys x) → Contains (y ∷ ys) x
first_found true o y ys x found there = (0, omega arith, some_same y x found)
first_found false o y ys x found there = later y ys x (there found)

found_in : {K X : Type 0} (R : K → K → Ordering) (es : List (K × X)) (k : K) (x : X) → finite.find R k es ≡ Some x → Contains (map (λ e. e.1) es) x
found_in R [] k x found = absurd (cc)
found_in R (e ∷ es) k x found = first_found (eq_by_cmp R k e.0) (finite.find R k es) e.1 (map (λ e. e.1) es) x found (found_in R es k x)

module _ {K X : Type 0} (R : K → K → Ordering) (total : IsTotalOrder R) where
  -- An element that is found is a value.
  pub value_there : (m : finite.FinMap R X) (k : K) (x : X) → finite.get m k ≡ Some x → Contains (finite.values m) x
  value_there m k x there = found_in R (finite.entries m) k x (sym (finite.get-entries m k) ∙ there)

  -- A value is found at its key.
  module _ (es : List (K × X)) (sorted : IsTrue (finite.is_sorted R es)) (k : K) (x : X) (there : Contains (map (λ e. e.1) es) x) where
    abbrev entry : K × X
    entry = get_or es there.0 (k, x)

    in_range : there.0 < length es
    in_range = omega (arith, there.1, length-map es (λ (e : K × X). e.1))

    place : IsPosition R (λ (e : K × X). e.0) es entry.0 there.0
    place = record {
      in_range = in_range;
      same = λ d. ap (λ (e : K × X). R e.0 entry.0) (get_or_default es there.0 d (k, x) in_range) ∙ tied_itself total entry.0;
    }

    pub value_at : (key : K) × (finite.find R key es ≡ Some x)
    value_at = (
      entry.0,
      subst (λ fs. finite.find R entry.0 fs ≡ Some entry.1) (map-same es)
          (rows.find_place R total (λ (e : K × X). e.0) (λ (e : K × X). e.1) es (subst (λ fs. IsTrue (finite.is_sorted R fs)) (sym (map-same es)) sorted) entry.0 there.0 (k, x) place)
          ∙ ap Some (sym (get_or-map (λ (e : K × X). e.1) es there.0 (k, x)) ∙ there.2),
    )

  pub there_value : (m : finite.FinMap R X) (key : X → K) (x : X) → ((k : K) (y : X) → finite.get m k ≡ Some y → key y ≡ k) → Contains (finite.values m) x → finite.get m (key x) ≡ Some x
  there_value m key x own there =
      let found = value_at (finite.entries m) (rows.true_from _ (finite.entries_sorted m)) (key x) x there in
      let at_key : finite.get m found.0 ≡ Some x = finite.get-entries m found.0 ∙ found.1 in
      subst (λ k. finite.get m k ≡ Some x) (sym (own found.0 x at_key)) at_key

  -- ## Two maps, the second with the values of the first that pass a test
  module _ (m n : finite.FinMap R X) (key : X → K) (p : X → Bool)
      (own_m : (k : K) (y : X) → finite.get m k ≡ Some y → key y ≡ k) (own_n : (k : K) (y : X) → finite.get n k ≡ Some y → key y ≡ k)
      (half : finite.values n ≡ filter p (finite.values m)) where
    pub to_half : (k : K) (x : X) → finite.get m k ≡ Some x → p x ≡ true → finite.get n k ≡ Some x
    to_half k x at passes =
        subst (λ i. finite.get n i ≡ Some x) (own_m k x at)
        (there_value n key x own_n (subst (λ l. Contains l x) (sym half) (kept p (finite.values m) x (value_there m k x at) passes)))

    pub from_half : (k : K) (x : X) → finite.get n k ≡ Some x → (finite.get m k ≡ Some x) × (p x ≡ true)
    from_half k x at =
        let found = unkept p (finite.values m) x (subst (λ l. Contains l x) half (value_there n k x at)) in
        (subst (λ i. finite.get m i ≡ Some x) (own_n k x at) (there_value m key x own_m found.0), found.1)
