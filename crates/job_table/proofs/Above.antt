-- A row whose key is above all others is the last row.
use Rattle.std.proofs.Common.{◌≡◌, ℕ, zero, suc, ◌-◌, ◌<◌, ◌≤◌, Bool, true, false, cond, IsTrue, Option, None, Some, List, [], ◌∷◌, ◌++◌, length, get_or, map, refl, sym, ap, ◌∙◌, arith}
use Rattle.std.specs.Prelude.{T}
use Rattle.std.specs.declared.cmp.Ordering.{Ordering}
use Rattle.std.specs.declared.cmp.Ordering.TheVariants.{Less}
use Rattle.std.specs.List.{insert}
use Rattle.std.specs.Ordering.{ordering_reverse, is_lt, is_eq, eq_by_cmp}
use Rattle.std.specs.Cmp.{IsTotalOrder, tied_itself}
use Rattle.std.specs.FinMap as finite
use Rattle.std.specs.FinMap.Entries.{find, put, is_sorted, below_all, by_order}
use Rattle.job_rows.specs.RowPositions.{IsGap}
use Rattle.job_table.specs.Loading.{IsAbove}
use Rattle.job_table.proofs.Changes.{apart}
use Rattle.job_table.proofs.Rows.{t_from, first_of, second_of, less_from}

pub insert_last : {Y : Type 0} (ys : List Y) (y : Y) → insert ys (length ys) y ≡ ys ++ y ∷ []
insert_last [] y = refl
insert_last (z ∷ ys) y = ap (λ zs. z ∷ zs) (insert_last ys y)

less_not : (r : Ordering) → r ≡ Less → is_lt r ≡ false → ⊥
less_not r e f = apart _ (ap is_lt e) f

module _ {K X : Type 0} (R : K → K → Ordering) (o : IsTotalOrder R) where
  put_above : (k : K) (v : X) (es : List (K × X)) → IsAbove R k (map (λ e. e.0) es) → put R k v es ≡ es ++ (k, v) ∷ []
  put_above k v [] above = refl
  put_above k v (e ∷ es) above =
      ap (λ r. by_order r ((k, v) ∷ e ∷ es) ((e.0, v) ∷ es) (e ∷ put R k v es)) (o.antisymm k e.0 ∙ ap ordering_reverse above.0)
      ∙ ap (λ fs. e ∷ fs) (put_above k v es above.1)

  pub entries_above : (m : finite.FinMap R X) (k : K) (v : X) → IsAbove R k (finite.keys m) → finite.entries (finite.insert m k v) ≡ finite.entries m ++ (k, v) ∷ []
  entries_above m k v above = finite.entries-insert o m k v ∙ put_above k v (finite.entries m) above

module _ {K Y X : Type 0} (R : K → K → Ordering) (o : IsTotalOrder R) (key : Y → K) (value : Y → X) where
  -- A key above the last key is above all keys.
  above_last : (k : K) (ys : List Y) → T (is_sorted R (map (λ y. (key y, value y)) ys)) → (n : ℕ) (d : Y) → suc n ≡ length ys → R (key (get_or ys n d)) k ≡ Less → IsAbove R k (map key ys)
  above_last k [] sorted n d is less = tt
  above_last k (y ∷ []) sorted zero d is less = (less, tt)
  above_last k (y ∷ []) sorted (suc n) d is less = absurd (omega arith)
  above_last k (y ∷ z ∷ ys) sorted zero d is less = absurd (omega arith)
  above_last k (y ∷ z ∷ ys) sorted (suc n) d is less =
      let rest = above_last k (z ∷ ys) (second_of _ _ sorted) n d (omega arith) less in
      (o.trans (key y) (key z) k (less_from _ (first_of _ _ (first_of _ _ sorted))) rest.0, rest)

  pub above_all : (k : K) (ys : List Y) → IsTrue (is_sorted R (map (λ y. (key y, value y)) ys)) → (n : ℕ) (d : Y) → suc n ≡ length ys → R (key (get_or ys n d)) k ≡ Less → IsAbove R k (map key ys)
  above_all k ys sorted = above_last k ys (t_from _ sorted)

  pub above_each : (k : K) (ys : List Y) → IsAbove R k (map key ys) → (j : ℕ) (d : Y) → j < length ys → R (key (get_or ys j d)) k ≡ Less
  above_each k [] above j d lt = absurd (omega arith)
  above_each k (y ∷ ys) above zero d lt = above.0
  above_each k (y ∷ ys) above (suc j) d lt = above_each k ys above.1 j d (omega arith)

  pub last_gap : (k : K) (ys : List Y) → IsAbove R k (map key ys) → IsGap R key ys k (length ys)
  last_gap k ys above = record { in_range = omega arith; before = λ j d lt. above_each k ys above j d lt; behind = λ j d le lt. absurd (omega arith) }

  -- A test of the last row decides whether a key is above all keys.
  pub above_yes : (k : K) (ys : List Y) → IsTrue (is_sorted R (map (λ y. (key y, value y)) ys)) → (y : Y) → 0 < length ys → y ≡ get_or ys (length ys - 1) y → is_lt (R (key y) k) ≡ true → IsAbove R k (map key ys)
  above_yes k ys sorted y some is lt = above_all k ys sorted (length ys - 1) y (omega arith) (ap (λ z. R (key z) k) (sym is) ∙ less_from _ (t_from _ lt))

  pub above_no : (k : K) (ys : List Y) (y : Y) → 0 < length ys → y ≡ get_or ys (length ys - 1) y → is_lt (R (key y) k) ≡ false → ¬ (IsAbove R k (map key ys))
  above_no k ys y some is lt above = less_not _ (ap (λ z. R (key z) k) is ∙ above_each k ys above (length ys - 1) y (omega arith)) lt

  pub above_none : (k : K) (ys : List Y) → length ys ≤ 0 → IsAbove R k (map key ys)
  above_none k [] none = tt
  above_none k (y ∷ ys) none = absurd (omega arith)

-- ## Entries in order

either_more : {X : Type 0} (b : Bool) (first rest more found : Option X) → cond b first rest ≡ found → (rest ≡ found → more ≡ found) → cond b first more ≡ found
either_more true first rest more found is later = is
either_more false first rest more found is later = later is

module _ {K X : Type 0} (R : K → K → Ordering) (o : IsTotalOrder R) where
  -- An entry is above the entries before it.
  below_there : (k : K) (front : List (K × X)) (e : K × X) (back : List (K × X)) → T (below_all R k (front ++ e ∷ back)) → R k e.0 ≡ Less
  below_there k [] e back below = less_from _ (first_of _ _ below)
  below_there k (f ∷ front) e back below = below_there k front e back (second_of _ _ below)

  pub above_front : (front : List (K × X)) (e : K × X) (back : List (K × X)) → T (is_sorted R (front ++ e ∷ back)) → IsAbove R e.0 (map (λ e. e.0) front)
  above_front [] e back sorted = tt
  above_front (f ∷ front) e back sorted = (below_there f.0 front e back (first_of _ _ sorted), above_front front e back (second_of _ _ sorted))

  pub found_there : (front : List (K × X)) (e : K × X) (back : List (K × X)) → IsAbove R e.0 (map (λ e. e.0) front) → find R e.0 (front ++ e ∷ back) ≡ Some e.1
  found_there [] e back above = ap (λ r. cond (is_eq r) (Some e.1) (find R e.0 back)) (tied_itself o e.0)
  found_there (f ∷ front) e back above =
      ap (λ r. cond (is_eq r) (Some f.1) (find R e.0 (front ++ e ∷ back))) (o.antisymm e.0 f.0 ∙ ap ordering_reverse above.0)
      ∙ found_there front e back above.1

  pub absent_above : (front : List (K × X)) (k : K) → IsAbove R k (map (λ e. e.0) front) → find R k front ≡ None
  absent_above [] k above = refl
  absent_above (f ∷ front) k above =
      ap (λ r. cond (is_eq r) (Some f.1) (find R k front)) (o.antisymm k f.0 ∙ ap ordering_reverse above.0)
      ∙ absent_above front k above.1

  pub found_more : (k : K) (x : X) (front back : List (K × X)) → find R k front ≡ Some x → find R k (front ++ back) ≡ Some x
  found_more k x [] back found = absurd (cc)
  found_more k x (f ∷ front) back found = either_more (eq_by_cmp R k f.0) (Some f.1) (find R k front) (find R k (front ++ back)) (Some x) found (λ later. found_more k x front back later)
