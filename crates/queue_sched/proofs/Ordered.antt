-- Items in an order, with one more and with one less item.
use Rattle.std.proofs.Common.{◌≡◌, ℕ, ◌+◌, ◌-◌, ◌<◌, ◌≤◌, ◌⊎◌, ◌↔◌, Bool, true, false, List, [], ◌∷◌, length, get_or, inl, inr, refl, sym, subst, ◌∙◌, arith, IsTrue}
use Rattle.std.proofs.Math.Logic.{⊎_elim}
use Rattle.std.proofs.lemmas.Bool.{both_ways, cases_lt, cases_order}
use Rattle.std.proofs.lemmas.List.Edits.{length-insert, length-remove, get_or-insert_below, get_or-insert_at, get_or-insert_above, get_or-remove_below, get_or-remove_above}
use Rattle.std.proofs.lemmas.List.Elements.{Contains-get_or, Contains-append_right, Contains-append_cases, Contains-push_cases}
use Rattle.std.proofs.lemmas.List.Quantifiers.{all_pairs_remove}
use Rattle.std.proofs.lemmas.List.Sorted.{IsPermutation-insert, IsPermutation-remove, IsPermutation-sym, Contains-permutation}
use Rattle.std.specs.List.{Contains, AllPairs, AllWithin, insert, remove}
use Rattle.std.specs.List.Sorted.{IsPartitionedBy}

-- The only item of a list of one.
pub single : {A : Type 0} (e f : A) → Contains (e ∷ []) f → f ≡ e
single e f there = ⊎_elim (λ (none : Contains [] f). absurd (omega (arith, none.1))) (λ (same : e ≡ f). sym same) (Contains-push_cases [] e f there)

module _ {A : Type 0} (before_it : A → A → Bool) (itself : (e : A) → before_it e e ≡ false) (onward : (e f g : A) → before_it e f ≡ true → before_it f g ≡ true → before_it e g ≡ true) where
  -- Each item comes before all later ones.
  abbrev pub InOrder : List A → Type 0
  InOrder xs = AllPairs (λ e f. IsTrue (before_it e f)) xs

  module _ (xs : List A) (e : A) where
    abbrev pub AreBefore : ℕ → Type 0
    AreBefore at = AllWithin (λ f. before_it f e ≡ true) xs 0 at

    abbrev pub AreBehind : ℕ → Type 0
    AreBehind at = AllWithin (λ f. before_it f e ≡ false) xs at (length xs)

    -- Items that come before an entry are before the others.
    pub parted : InOrder xs → IsPartitionedBy (λ f. before_it f e) xs
    parted order i j d le inside passes =
        ⊎_elim (λ (same : i ≡ j). subst (λ k. before_it (get_or xs k d) e ≡ true) (sym same) passes)
        (λ other. ⊎_elim (λ (lt : i < j). onward (get_or xs i d) (get_or xs j d) e (order i j d lt inside) passes) (λ (gt : j < i). absurd (omega arith)) other)
        (cases_order i j)

    -- An item of the list is at the position at which it would be inserted.
    pub place_at : InOrder xs → (at : ℕ) → at ≤ length xs → AreBefore at → AreBehind at → (there : Contains xs e) → at ≡ there.0
    place_at order at le before behind there =
        ⊎_elim (λ (same : at ≡ there.0). same)
        (λ other. ⊎_elim
        (λ (lt : at < there.0).
        absurd (both_ways (before_it (get_or xs at e) e) (behind at e (omega arith) (omega (arith, lt, there.1)))
        (subst (λ f. before_it (get_or xs at e) f ≡ true) there.2 (order at there.0 e lt there.1))))
        (λ (gt : there.0 < at).
        absurd (both_ways (before_it e e) (itself e)
        (subst (λ f. before_it f e ≡ true) there.2 (before there.0 e (omega arith) gt))))
        other)
        (cases_order at there.0)

    module _ (at : ℕ) (le : at ≤ length xs) where
      -- The origin of an item of the longer list.
      abbrev Comes : ℕ → Type 0
      Comes k = ((k < at) × ((d : A) → get_or (insert xs at e) k d ≡ get_or xs k d))
          ⊎ (((k ≡ at) × ((d : A) → get_or (insert xs at e) k d ≡ e))
          ⊎ ((m : ℕ) × (k ≡ m + 1) × (at ≤ m) × ((d : A) → get_or (insert xs at e) k d ≡ get_or xs m d)))

      comes : (k : ℕ) → Comes k
      comes k =
          ⊎_elim (λ (same : k ≡ at). inr (inl (same, λ d. subst (λ n. get_or (insert xs at e) n d ≡ e) (sym same) (get_or-insert_at xs at e d le))))
          (λ other. ⊎_elim (λ (lt : k < at). inl (lt, λ d. get_or-insert_below xs at e d k lt le))
          (λ (gt : at < k).
          let before : k ≡ (k - 1) + 1 = omega arith in
          inr (inr (k - 1, before, omega arith, λ d. subst (λ n. get_or (insert xs at e) n d ≡ get_or xs (k - 1) d) (sym before) (get_or-insert_above xs at e d (k - 1) (omega arith) le))))
          other)
          (cases_order k at)

      abbrev Goes : A → A → Type 0
      Goes f g = IsTrue (before_it f g)

      pub in_order_insert : InOrder xs → ((f : A) → Contains xs f → before_it f e ≡ false → before_it e f ≡ true) → AreBefore at → AreBehind at → InOrder (insert xs at e)
      in_order_insert order waiting_entries before behind i j d lt inside =
          let long : length (insert xs at e) ≡ length xs + 1 = length-insert xs at e le in
          ⊎_elim
          (λ (low : (i < at) × ((d : A) → get_or (insert xs at e) i d ≡ get_or xs i d)).
          ⊎_elim
          (λ (low' : (j < at) × ((d : A) → get_or (insert xs at e) j d ≡ get_or xs j d)).
          subst (λ f. Goes f (get_or (insert xs at e) j d)) (sym (low.1 d))
          (subst (λ g. Goes (get_or xs i d) g) (sym (low'.1 d)) (order i j d lt (omega (arith, low'.0)))))
          (λ rest. ⊎_elim
          (λ (here : (j ≡ at) × ((d : A) → get_or (insert xs at e) j d ≡ e)).
          subst (λ f. Goes f (get_or (insert xs at e) j d)) (sym (low.1 d))
          (subst (λ g. Goes (get_or xs i d) g) (sym (here.1 d)) (before i d (omega arith) low.0)))
          (λ (up : (m : ℕ) × (j ≡ m + 1) × (at ≤ m) × ((d : A) → get_or (insert xs at e) j d ≡ get_or xs m d)).
          subst (λ f. Goes f (get_or (insert xs at e) j d)) (sym (low.1 d))
          (subst (λ g. Goes (get_or xs i d) g) (sym (up.3 d)) (order i up.0 d (omega (arith, low.0, up.2)) (omega (arith, inside, long, up.1)))))
          rest)
          (comes j))
          (λ rest. ⊎_elim
          (λ (here : (i ≡ at) × ((d : A) → get_or (insert xs at e) i d ≡ e)).
          ⊎_elim
          (λ (low' : (j < at) × ((d : A) → get_or (insert xs at e) j d ≡ get_or xs j d)). absurd (omega (arith, lt, here.0, low'.0)))
          (λ rest. ⊎_elim
          (λ (here' : (j ≡ at) × ((d : A) → get_or (insert xs at e) j d ≡ e)). absurd (omega (arith, lt, here.0, here'.0)))
          (λ (up : (m : ℕ) × (j ≡ m + 1) × (at ≤ m) × ((d : A) → get_or (insert xs at e) j d ≡ get_or xs m d)).
          let within : up.0 < length xs = omega (arith, inside, long, up.1) in
          subst (λ f. Goes f (get_or (insert xs at e) j d)) (sym (here.1 d))
          (subst (λ g. Goes e g) (sym (up.3 d))
          (waiting_entries (get_or xs up.0 d) (Contains-get_or xs up.0 d within) (behind up.0 d up.2 within))))
          rest)
          (comes j))
          (λ (up : (m : ℕ) × (i ≡ m + 1) × (at ≤ m) × ((d : A) → get_or (insert xs at e) i d ≡ get_or xs m d)).
          ⊎_elim
          (λ (low' : (j < at) × ((d : A) → get_or (insert xs at e) j d ≡ get_or xs j d)). absurd (omega (arith, lt, up.1, up.2, low'.0)))
          (λ rest. ⊎_elim
          (λ (here' : (j ≡ at) × ((d : A) → get_or (insert xs at e) j d ≡ e)). absurd (omega (arith, lt, up.1, up.2, here'.0)))
          (λ (up' : (m : ℕ) × (j ≡ m + 1) × (at ≤ m) × ((d : A) → get_or (insert xs at e) j d ≡ get_or xs m d)).
          subst (λ f. Goes f (get_or (insert xs at e) j d)) (sym (up.3 d))
          (subst (λ g. Goes (get_or xs up.0 d) g) (sym (up'.3 d)) (order up.0 up'.0 d (omega (arith, lt, up.1, up'.1)) (omega (arith, inside, long, up'.1)))))
          rest)
          (comes j))
          rest)
          (comes i)

    -- The items of the longer list.
    pub has_more : (at : ℕ) (f : A) → Contains (insert xs at e) f ↔ (Contains xs f ⊎ (f ≡ e))
    has_more at f = (
      λ there. ⊎_elim (λ (one : Contains (e ∷ []) f). inr (single e f one)) (λ rest. inl rest)
          (Contains-append_cases (e ∷ []) xs f (Contains-permutation (insert xs at e) (e ∷ xs) f (IsPermutation-sym (e ∷ xs) (insert xs at e) (IsPermutation-insert xs at e)) there)),
      λ either. Contains-permutation (e ∷ xs) (insert xs at e) f (IsPermutation-insert xs at e)
          (⊎_elim (λ old. Contains-append_right (e ∷ []) xs f old) (λ (same : f ≡ e). subst (λ g. Contains (e ∷ xs) g) (sym same) (0, omega arith, refl)) either),
    )

    module _ (at : ℕ) (inside : at < length xs) (here : get_or xs at e ≡ e) where
      pub in_order_remove : InOrder xs → InOrder (remove xs at)
      in_order_remove order = all_pairs_remove (λ f g. IsTrue (before_it f g)) xs at inside order

      pub not_left : InOrder xs → ¬ (Contains (remove xs at) e)
      not_left order there =
          let k = there.0 in
          let short : length (remove xs at) + 1 ≡ length xs = length-remove xs at inside in
          ⊎_elim
          (λ (lt : k < at).
          both_ways (before_it e e) (itself e)
          (subst (λ f. before_it f e ≡ true) (sym (get_or-remove_below xs at e k lt inside) ∙ there.2)
          (subst (λ f. before_it (get_or xs k e) f ≡ true) here (order k at e lt inside))))
          (λ (ge : at ≤ k).
          both_ways (before_it e e) (itself e)
          (subst (λ f. before_it e f ≡ true) (sym (get_or-remove_above xs at e k ge inside) ∙ there.2)
          (subst (λ f. before_it f (get_or xs (k + 1) e) ≡ true) here (order at (k + 1) e (omega arith) (omega (arith, short, there.1))))))
          (cases_lt k at)

      -- The items of the shorter list.
      pub has_less : InOrder xs → (f : A) → Contains (remove xs at) f ↔ (Contains xs f × ¬ (f ≡ e))
      has_less order f = (
        λ there. (
          Contains-permutation (e ∷ remove xs at) xs f (IsPermutation-sym xs (e ∷ remove xs at) (IsPermutation-remove xs at e inside (sym here))) (Contains-append_right (e ∷ []) (remove xs at) f there),
          λ (same : f ≡ e). not_left order (subst (λ g. Contains (remove xs at) g) same there),
        ),
        λ both. ⊎_elim (λ (one : Contains (e ∷ []) f). absurd (both.1 (single e f one))) (λ rest. rest)
            (Contains-append_cases (e ∷ []) (remove xs at) f (Contains-permutation xs (e ∷ remove xs at) f (IsPermutation-remove xs at e inside (sym here)) both.0)),
      )
