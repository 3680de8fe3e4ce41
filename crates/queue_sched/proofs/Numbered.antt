-- Items that are sorted by an order and have different numbers.
use Rattle.std.proofs.Common.{◌≡◌, ℕ, ◌<◌, ◌↔◌, eqb, Bool, true, false, List, [], ◌∷◌, length, map, get_or, sym, ◌∙◌, arith, IsTrue}
use Rattle.std.proofs.lemmas.Bool.{both_ways, false_from_ne_true}
use Rattle.std.proofs.lemmas.Bool.Decides.{Decides-eqb, nat_tests}
use Rattle.std.proofs.lemmas.List.{length-map, get_or-map}
use Rattle.std.proofs.lemmas.List.Sorted.{sorted_far, IsPermutation-map, IsPermutation-sym, Contains-permutation}
use Rattle.std.proofs.lemmas.Map.Keys.{IsDistinct-IsPermutation}
use Rattle.std.proofs.lemmas.Map.Made.{AllPairs-from_IsDistinct, IsDistinct-from_AllPairs}
use Rattle.std.specs.Cmp.{IsStrictWeakOrder}
use Rattle.std.specs.List.{Contains, AllPairs}
use Rattle.std.specs.List.Sorted.{IsPermutation, IsSortedBy}

eqb_flips : (j k : ℕ) → eqb j k ≡ eqb k j
eqb_flips j k = grind (arith, nat_tests)

-- The same items.
pub same_items : {A : Type 0} (xs ys : List A) → IsPermutation xs ys → (e : A) → Contains ys e ↔ Contains xs e
same_items xs ys moved e = (Contains-permutation ys xs e (IsPermutation-sym xs ys moved), Contains-permutation xs ys e moved)

module _ {A : Type 0} (number : A → ℕ) where
  abbrev pub HasEachOnce : List A → Type 0
  HasEachOnce xs = AllPairs (λ e f. ¬ (number e ≡ number f)) xs

  -- Items with different numbers are different.
  numbers_differ : (xs : List A) → HasEachOnce xs → AllPairs (λ j k. ¬ (j ≡ k)) (map number xs)
  numbers_differ [] once = λ i j d lt inside. absurd (omega (arith, inside))
  numbers_differ (x ∷ xs) once = λ i j d lt inside same.
      let long = length-map (x ∷ xs) number in
      let within : j < length (x ∷ xs) = omega (arith, inside, long) in
      once i j x lt within
      (sym (get_or-map number (x ∷ xs) i x d (omega arith)) ∙ same ∙ get_or-map number (x ∷ xs) j x d within)

  items_differ : (xs : List A) → AllPairs (λ j k. ¬ (j ≡ k)) (map number xs) → HasEachOnce xs
  items_differ xs once = λ i j d lt inside same.
      once i j (number d) lt (omega (arith, inside, length-map xs number))
      (get_or-map number xs i d (number d) (omega arith) ∙ same ∙ sym (get_or-map number xs j d (number d) inside))

  -- In any order each item occurs once.
  pub once_moved : (xs ys : List A) → IsPermutation xs ys → HasEachOnce xs → HasEachOnce ys
  once_moved xs ys moved once =
      items_differ ys
      (AllPairs-from_IsDistinct Decides-eqb (map number ys)
      (IsDistinct-IsPermutation eqb eqb_flips (map number xs) (map number ys) (IsPermutation-map number xs ys moved)
      (IsDistinct-from_AllPairs Decides-eqb (map number xs) (numbers_differ xs once))))

  module _ (before_it : A → A → Bool) (itself : (e : A) → before_it e e ≡ false) (onward : (e f g : A) → before_it e f ≡ true → before_it f g ≡ true → before_it e g ≡ true)
      (not_onward : (e f g : A) → before_it e f ≡ false → before_it f g ≡ false → before_it e g ≡ false) (other_way : (e f : A) → ¬ (number e ≡ number f) → before_it f e ≡ false → before_it e f ≡ true) where
    pub ranked : IsStrictWeakOrder before_it
    ranked = record {
      one_way = λ e f first. false_from_ne_true (before_it f e) (λ back. both_ways (before_it e e) (itself e) (onward e f e first back));
      chain = not_onward;
    }

    -- If no item comes before an earlier one of the list, each comes before all later ones.
    pub in_order : (xs : List A) → HasEachOnce xs → IsSortedBy before_it xs → AllPairs (λ e f. IsTrue (before_it e f)) xs
    in_order xs once sorted = λ i j d lt inside.
        other_way (get_or xs i d) (get_or xs j d) (once i j d lt inside) (sorted_far before_it ranked xs sorted i j d (omega arith) inside)
