-- Keys are in ascending order if each key is below the next one.
use Rattle.std.proofs.Common.{◌≡◌, ℕ, zero, suc, ◌+◌, ◌<◌, Bool, true, false, List, [], ◌∷◌, length, get_or, refl, sym, ap, subst, arith}
use Rattle.std.specs.List.{list_all, IsAllAdjacentAnswer}
use Rattle.std.specs.Ordering.{nat_cmp, is_lt}
use Rattle.std.specs.Cmp.Lexicographic.{slice_cmp, nat_list_cmp_total}
use Rattle.std.proofs.lemmas.Bool.{and_parts, and_from}
use Rattle.row_effects.specs.Keys.{is_ascending}
use Rattle.job_table.proofs.Changes.{apart}
use Rattle.job_table.proofs.Rows.{t_from, less_from}

next : (k : ℕ) → k + 1 ≡ suc k
next k = omega arith

module _ {Y : Type 0} (key : Y → List ℕ) where
  abbrev pub is_lower : Y → Y → Bool
  is_lower y z = is_lt (slice_cmp nat_cmp (key y) (key z))

  lower_then : (x y z : Y) → is_lower x y ≡ true → is_lower y z ≡ true → is_lower x z ≡ true
  lower_then x y z p q = ap is_lt (nat_list_cmp_total.trans (key x) (key y) (key z) (less_from _ (t_from _ p)) (less_from _ (t_from _ q)))

  all_lower : (x y : Y) (ys : List Y) → is_lower x y ≡ true → list_all (λ z. is_lower y z) ys ≡ true → list_all (λ z. is_lower x z) ys ≡ true
  all_lower x y [] lt all = refl
  all_lower x y (z ∷ zs) lt all =
      let parts = and_parts (is_lower y z) (list_all (λ z. is_lower y z) zs) all in
      and_from (is_lower x z) (list_all (λ z. is_lower x z) zs) (lower_then x y z lt parts.0) (all_lower x y zs lt parts.1)

  from_adjacent : (ys : List Y) → ((k : ℕ) (d : Y) → suc k < length ys → is_lower (get_or ys k d) (get_or ys (suc k) d) ≡ true) → is_ascending key ys ≡ true
  from_adjacent [] each = refl
  from_adjacent (y ∷ []) each = refl
  from_adjacent (y ∷ z ∷ ys) each =
      let rest = from_adjacent (z ∷ ys) (λ k d lt. each (suc k) d (omega arith)) in
      let first = each 0 y (omega arith) in
      and_from (list_all (λ w. is_lower y w) (z ∷ ys)) (is_ascending key (z ∷ ys))
      (and_from (is_lower y z) (list_all (λ w. is_lower y w) ys) first (all_lower y z ys first (and_parts (list_all (λ w. is_lower z w) ys) (is_ascending key ys) rest).0))
      rest

  to_adjacent : (ys : List Y) → is_ascending key ys ≡ true → (k : ℕ) (d : Y) → suc k < length ys → is_lower (get_or ys k d) (get_or ys (suc k) d) ≡ true
  to_adjacent [] up k d lt = absurd (omega arith)
  to_adjacent (y ∷ []) up k d lt = absurd (omega arith)
  to_adjacent (y ∷ z ∷ ys) up zero d lt =
      (and_parts (is_lower y z) (list_all (λ w. is_lower y w) ys) (and_parts (list_all (λ w. is_lower y w) (z ∷ ys)) (is_ascending key (z ∷ ys)) up).0).0
  to_adjacent (y ∷ z ∷ ys) up (suc k) d lt = to_adjacent (z ∷ ys) (and_parts (list_all (λ w. is_lower y w) (z ∷ ys)) (is_ascending key (z ∷ ys)) up).1 k d (omega arith)

  -- A test of all neighbours decides whether the keys are in ascending order.
  pub ascends_as : (ys : List Y) (r : Bool) → IsAllAdjacentAnswer (λ x y b. b ≡ is_lower x y) ys r → r ≡ is_ascending key ys
  ascends_as ys true answer = sym (from_adjacent ys (λ k d lt. sym (subst (λ n. true ≡ is_lower (get_or ys k d) (get_or ys n d)) (next k) (answer k d (omega arith)))))
  ascends_as [] false answer = absurd (omega (arith, answer.1))
  ascends_as (y ∷ ys) false answer = either (is_ascending key (y ∷ ys)) refl
    where
      either : (b : Bool) → is_ascending key (y ∷ ys) ≡ b → false ≡ b
      either true up = absurd (apart _ (to_adjacent (y ∷ ys) up answer.0 y (omega (arith, answer.1))) (sym (subst (λ n. false ≡ is_lower (get_or (y ∷ ys) answer.0 y) (get_or (y ∷ ys) n y)) (next answer.0) (answer.2 y))))
      either false up = refl
