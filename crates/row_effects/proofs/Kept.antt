-- The result of inserting an item into a list in ascending order, whether or not the list is full.
use Rattle.std.proofs.Common.{◌≡◌, ℕ, suc, ◌<◌, ◌≤◌, Bool, true, false, cond, ◌||◌, List, [], ◌∷◌, length, set, refl, sym, ap, subst, ◌∙◌, arith}
use Rattle.std.specs.Prelude.{nat_lt}
use Rattle.std.specs.List.{insert, filter}
use Rattle.std.proofs.lemmas.Bool.{lt-ltb, le-ltb, ltb-true, or_right, or_from}
use Rattle.row_effects.specs.Keys.{most_kept, is_ascending, has_key, with_item, with_kept, IsPosition, IsGap}
use Rattle.row_effects.proofs.Keys.{ascends_with, length_with, with_gap, with_place, has_place, has_gap}

module _ {Y : Type 0} (key : Y → List ℕ) where
  abbrev chosen : Y → List Y → Bool → List Y
  chosen y ys b = cond b (with_item key y ys) ys

  pub kept_there : (y : Y) (ys : List Y) → has_key key (key y) ys ≡ true → with_kept key y ys ≡ with_item key y ys
  kept_there y ys there = ap (λ b. chosen y ys (b || nat_lt (length ys) most_kept)) there

  pub kept_below : (y : Y) (ys : List Y) → length ys < most_kept → with_kept key y ys ≡ with_item key y ys
  kept_below y ys lt = ap (chosen y ys) (or_right (has_key key (key y) ys) _ (lt-ltb _ _ lt))

  pub kept_full : (y : Y) (ys : List Y) → has_key key (key y) ys ≡ false → most_kept ≤ length ys → with_kept key y ys ≡ ys
  kept_full y ys new le = ap (chosen y ys) (or_from (has_key key (key y) ys) _ new (le-ltb _ _ le))

  pub kept_place : (ys : List Y) → is_ascending key ys ≡ true → (y : Y) (i : ℕ) → IsPosition key ys (key y) i → with_kept key y ys ≡ set ys i y
  kept_place ys h y i at = kept_there y ys (has_place key ys (key y) i at) ∙ with_place key ys h y i at

  pub kept_gap : (ys : List Y) (y : Y) (i : ℕ) → IsGap key ys (key y) i → length ys < most_kept → with_kept key y ys ≡ insert ys i y
  kept_gap ys y i gap lt = kept_below y ys lt ∙ with_gap key ys y i gap

  pub kept_dropped : (ys : List Y) (y : Y) (i : ℕ) → IsGap key ys (key y) i → most_kept ≤ length ys → with_kept key y ys ≡ ys
  kept_dropped ys y i gap le = kept_full y ys (has_gap key ys (key y) i gap) le

  -- The order is preserved.
  pub ascends_kept : (y : Y) (ys : List Y) → is_ascending key ys ≡ true → is_ascending key (with_kept key y ys) ≡ true
  ascends_kept y ys h = elim (has_key key (key y) ys || nat_lt (length ys) most_kept) as (λ b. is_ascending key (chosen y ys b) ≡ true) [ true ↦ ascends_with key y ys h | false ↦ h ]

  few_of : (b : Bool) (n : ℕ) → n ≤ most_kept → (b || nat_lt n most_kept) ≡ true → cond b n (suc n) ≤ most_kept
  few_of true n le room = le
  few_of false n le room = let lt = ltb-true n most_kept room in omega arith

  -- The list has at most 64 items.
  pub few_kept : (y : Y) (ys : List Y) → is_ascending key ys ≡ true → length ys ≤ most_kept → length (with_kept key y ys) ≤ most_kept
  few_kept y ys h le = elim (has_key key (key y) ys || nat_lt (length ys) most_kept) as (λ b. (has_key key (key y) ys || nat_lt (length ys) most_kept) ≡ b → length (chosen y ys b) ≤ most_kept) [
    | true ↦ λ room. subst (λ n. n ≤ most_kept) (sym (length_with key y ys h)) (few_of (has_key key (key y) ys) (length ys) le room)
    | false ↦ λ room. le
  ] refl

length_filter : {Y : Type 0} (p : Y → Bool) (ys : List Y) → length (filter p ys) ≤ length ys
length_filter p [] = omega arith
length_filter p (y ∷ ys) =
    let rest = length_filter p ys in
    elim (p y) as (λ b. length (cond b (y ∷ filter p ys) (filter p ys)) ≤ suc (length ys)) [ true ↦ omega arith | false ↦ omega arith ]

pub few_filter : {Y : Type 0} (p : Y → Bool) (ys : List Y) → length ys ≤ most_kept → length (filter p ys) ≤ most_kept
few_filter p ys le = let rest = length_filter p ys in omega arith
