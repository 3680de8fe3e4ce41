-- Slots that are added or deleted at the end, the slots that a sweep leaves, and the first number above a given one.
use Rattle.std.proofs.Common.{Vec, Global, vec_len, vec_capacity, append-nil, ◌≡◌, ℕ, zero, suc, ◌+◌, ◌-◌, ◌<◌, ◌≤◌, ◌==◌, Bool, true, false, cond, IsTrue, List, [], ◌∷◌, ◌++◌, length, get_or, drop, map, filter, Some, None, Option, IsSome, is_some, true≢false, refl, sym, ap, subst, ◌∙◌, arith, add-one}
use Rattle.std.specs.Prelude.{T, IfSome, All, nat_lt, slice_get}
use Rattle.std.specs.declared.cmp.Ordering.TheVariants.{Less}
use Rattle.std.specs.Ordering.{nat_cmp}
use Rattle.std.specs.Cmp.{nat_cmp_total}
use Rattle.std.specs.FinMap.Entries.{is_sorted, below_all}
use Rattle.std.specs.List.{AllByRecursion}
use Rattle.std.specs.List.Sorted.{IsStrictlySortedBy, IsStrictlyIncreasing}
use Rattle.std.proofs.lemmas.Bool.{lt-ltb, le-ltb, ltb-true}
use Rattle.std.proofs.lemmas.List.{get_or_default, get_or-map, get_or_push, length_push}
use Rattle.std.proofs.lemmas.List.Edits.{insert_end}
use Rattle.std.proofs.lemmas.Map.Keys.{IsStrictlyIncreasing-from_sorted}
use Rattle.std.proofs.lemmas.Option.{slice_get-get_or, slice_get_within, get_or_from_slice_get}
use Rattle.spool_types.specs.declared.rows.JobRow.{JobRow}
use Rattle.job_rows.specs.declared.slot.Slot.{Slot}
use Rattle.job_rows.specs.declared.slot.Slot.TheVariants.{Held, Gone}
use Rattle.job_rows.specs.RowPositions.{IsGap}
use Rattle.job_rows.specs.NumberedRows.{first_above, position_in, HasNumber}
use Rattle.job_rows.specs.RowSlots.{number_of, slot_entry, row_of, held, numbers, first_number, gone_count, EndsHeld, IsParted}
use Rattle.job_rows.proofs.Rising.{t_from, true_from, first_of, second_of, both_from, less_from, sorted_insert}
use Rattle.job_rows.proofs.Holding.{eq_yes, is_less, less_is, rising, held_at, number_at, seat, seat_below, length_held}

-- ## One more or one less slot at the end

pub held_append : (ss ts : List Slot) → held (ss ++ ts) ≡ held ss ++ held ts
held_append [] ts = refl
held_append (Held n r ∷ ss) ts = ap (λ rs. r ∷ rs) (held_append ss ts)
held_append (Gone n ∷ ss) ts = held_append ss ts

pub numbers_append : (ss ts : List Slot) → numbers (ss ++ ts) ≡ numbers ss ++ numbers ts
numbers_append [] ts = refl
numbers_append (Held n r ∷ ss) ts = ap (λ ns. n ∷ ns) (numbers_append ss ts)
numbers_append (Gone n ∷ ss) ts = numbers_append ss ts

pub count_append : (ss ts : List Slot) → gone_count (ss ++ ts) ≡ gone_count ss + gone_count ts
count_append [] ts = omega arith
count_append (Held n r ∷ ss) ts = count_append ss ts
count_append (Gone n ∷ ss) ts = let rest = count_append ss ts in omega arith

below_front : (k : ℕ) (ss ts : List Slot) → T (below_all nat_cmp k (map slot_entry (ss ++ ts))) → T (below_all nat_cmp k (map slot_entry ss))
below_front k [] ts h = tt
below_front k (s ∷ ss) ts h = both_from _ _ (first_of _ _ h) (below_front k ss ts (second_of _ _ h))

t_front : (ss ts : List Slot) → T (is_sorted nat_cmp (map slot_entry (ss ++ ts))) → T (is_sorted nat_cmp (map slot_entry ss))
t_front [] ts h = tt
t_front (s ∷ ss) ts h = both_from _ _ (below_front (number_of s) ss ts (first_of _ _ h)) (t_front ss ts (second_of _ _ h))

-- A prefix of the slots is in ascending order.
pub sorted_front : (ss ts : List Slot) → IsTrue (is_sorted nat_cmp (map slot_entry (ss ++ ts))) → IsTrue (is_sorted nat_cmp (map slot_entry ss))
sorted_front ss ts h = true_from _ (t_front ss ts (t_from _ h))

-- The last slot has a row.
record IsLast (ss : List Slot) : Type 0 where
  number : ℕ
  row : JobRow
  is : get_or ss (length ss - 1) (Held number row) ≡ Held number row

last_row : (ss : List Slot) → EndsHeld ss → 0 < length ss → IsLast ss
last_row [] ends some = absurd (omega arith)
last_row (s ∷ ss) ends some = by_row (get_or (s ∷ ss) (length (s ∷ ss) - 1) s) refl (subst IsSome (get_or-map row_of (s ∷ ss) (length (s ∷ ss) - 1) s None (omega arith)) (ends some))
  where
    by_row : (t : Slot) → t ≡ get_or (s ∷ ss) (length (s ∷ ss) - 1) s → IsSome (row_of t) → IsLast (s ∷ ss)
    by_row (Held n r) is held = record { number = n; row = r; is = get_or_default (s ∷ ss) (length (s ∷ ss) - 1) (Held n r) s (omega arith) ∙ sym is }
    by_row (Gone n) is held = absurd (true≢false (sym held))

-- A number above those of all rows is above those of all slots.
above_slots : (ss : List Slot) (n : ℕ) → IsTrue (is_sorted nat_cmp (map slot_entry ss)) → EndsHeld ss → All (λ m. m < n) (numbers ss) → (j : ℕ) (d : Slot) → j < length ss → number_of (get_or ss j d) < n
above_slots ss n sorted ends above j d lt =
    let last = last_row ss ends (omega arith) in
    let at = length ss - 1 in
    let low : seat ss at < length (numbers ss) = seat_below last.number last.row ss at (Held last.number last.row) (omega arith) last.is in
    let least : last.number < n = subst (λ m. m < n) (number_at last.number last.row ss at (Held last.number last.row) 0 (omega arith) last.is) (above (seat ss at) 0 low) in
    let upto : number_of (get_or ss j d) ≤ number_of (get_or ss at d) = rising ss sorted j at d (omega arith) (omega arith) in
    let same : number_of (get_or ss at d) ≡ last.number = ap number_of (get_or_default ss at d (Held last.number last.row) (omega arith) ∙ last.is) in
    omega arith

module _ (ss : List Slot) (n : ℕ) (r : JobRow) (sorted : IsTrue (is_sorted nat_cmp (map slot_entry ss))) (ends : EndsHeld ss) (above : All (λ m. m < n) (numbers ss)) where
  last_gap : IsGap nat_cmp number_of ss n (length ss)
  last_gap = record {
    in_range = omega arith;
    before = λ j d lt. less_is _ _ (above_slots ss n sorted ends above j d lt);
    behind = λ j d le lt. absurd (omega arith);
  }

  pub sorted_push : IsTrue (is_sorted nat_cmp (map slot_entry (ss ++ Held n r ∷ [])))
  sorted_push = subst (λ ts. IsTrue (is_sorted nat_cmp (map slot_entry ts))) (insert_end ss (Held n r)) (sorted_insert nat_cmp nat_cmp_total number_of (λ s. s) ss sorted (Held n r) (length ss) last_gap)

pub ends_push : (ss : List Slot) (n : ℕ) (r : JobRow) → EndsHeld (ss ++ Held n r ∷ [])
ends_push ss n r = λ some.
    let long = length_push ss (Held n r) in
    let last : length (ss ++ Held n r ∷ []) - 1 ≡ length ss = omega arith in
    subst IsSome (sym (get_or-map row_of (ss ++ Held n r ∷ []) _ (Held n r) None (omega arith) ∙ ap row_of (get_or_push ss (Held n r) (Held n r) _ (sym last)))) refl

seat_last : (ss : List Slot) (i n : ℕ) (r : JobRow) → suc i ≡ length ss → get_or ss i (Held n r) ≡ Held n r → suc (seat ss i) ≡ length (held ss)
seat_last [] i n r last is = absurd (omega arith)
seat_last (Held m q ∷ ss) zero n r last is = let all = length_held ss in omega arith
seat_last (Gone m ∷ ss) zero n r last is = absurd (cc)
seat_last (Held m q ∷ ss) (suc i) n r last is = ap suc (seat_last ss i n r (omega arith) is)
seat_last (Gone m ∷ ss) (suc i) n r last is = seat_last ss i n r (omega arith) is

-- The last row is that of the last slot.
pub last_of : (ss : List Slot) (s : Slot) → EndsHeld ss → slice_get ss (length ss - 1) ≡ Some s → slice_get (held ss) (length (held ss) - 1) ≡ row_of s
last_of ss s ends read =
    let some = slice_get_within ss (length ss - 1) s read in
    let last = last_row ss ends (omega arith) in
    let at = length ss - 1 in
    let n = last.number in
    let r = last.row in
    let seat_is : suc (seat ss at) ≡ length (held ss) = seat_last ss at n r (omega arith) last.is in
    let here : length (held ss) - 1 ≡ seat ss at = omega arith in
    let is : s ≡ Held n r = sym (get_or_from_slice_get ss at s (Held n r) read) ∙ last.is in
    ap (slice_get (held ss)) here
    ∙ slice_get-get_or (held ss) (seat ss at) r (omega arith)
    ∙ ap Some (held_at n r ss at (Held n r) r (omega arith) last.is)
    ∙ sym (ap row_of is)

-- ## The result of a sweep

abbrev pub is_row : Slot → Bool
is_row s = is_some (row_of s)

pub held_swept : (ss : List Slot) → held (filter is_row ss) ≡ held ss
held_swept [] = refl
held_swept (Held n r ∷ ss) = ap (λ rs. r ∷ rs) (held_swept ss)
held_swept (Gone n ∷ ss) = held_swept ss

pub numbers_swept : (ss : List Slot) → numbers (filter is_row ss) ≡ numbers ss
numbers_swept [] = refl
numbers_swept (Held n r ∷ ss) = ap (λ ns. n ∷ ns) (numbers_swept ss)
numbers_swept (Gone n ∷ ss) = numbers_swept ss

pub none_swept : (ss : List Slot) → gone_count (filter is_row ss) ≡ 0
none_swept [] = refl
none_swept (Held n r ∷ ss) = none_swept ss
none_swept (Gone n ∷ ss) = none_swept ss

below_swept : (k : ℕ) (ss : List Slot) → T (below_all nat_cmp k (map slot_entry ss)) → T (below_all nat_cmp k (map slot_entry (filter is_row ss)))
below_swept k [] h = tt
below_swept k (Held n r ∷ ss) h = both_from _ _ (first_of _ _ h) (below_swept k ss (second_of _ _ h))
below_swept k (Gone n ∷ ss) h = below_swept k ss (second_of _ _ h)

t_swept : (ss : List Slot) → T (is_sorted nat_cmp (map slot_entry ss)) → T (is_sorted nat_cmp (map slot_entry (filter is_row ss)))
t_swept [] h = tt
t_swept (Held n r ∷ ss) h = both_from _ _ (below_swept n ss (first_of _ _ h)) (t_swept ss (second_of _ _ h))
t_swept (Gone n ∷ ss) h = t_swept ss (second_of _ _ h)

pub sorted_swept : (ss : List Slot) → IsTrue (is_sorted nat_cmp (map slot_entry ss)) → IsTrue (is_sorted nat_cmp (map slot_entry (filter is_row ss)))
sorted_swept ss h = true_from _ (t_swept ss (t_from _ h))

each_swept : (ss : List Slot) (i : ℕ) → i < length (filter is_row ss) → IsSome (get_or (map row_of (filter is_row ss)) i None)
each_swept [] i lt = absurd (omega arith)
each_swept (Held n r ∷ ss) zero lt = refl
each_swept (Held n r ∷ ss) (suc i) lt = each_swept ss i (omega arith)
each_swept (Gone n ∷ ss) i lt = each_swept ss i lt

pub ends_swept : (ss : List Slot) → EndsHeld (filter is_row ss)
ends_swept ss = λ some. each_swept ss _ (omega arith)

-- ## The first number above a given one

above_all : (ss : List Slot) (number : ℕ) → ((j : ℕ) (d : Slot) → j < length ss → number < number_of (get_or ss j d)) → first_above number (numbers ss) ≡ first_number ss
above_all [] number above = refl
above_all (Held n r ∷ ss) number above = ap (λ b. cond b (Some n) (first_above number (numbers ss))) (lt-ltb number n (above 0 (Held n r) (omega arith)))
above_all (Gone n ∷ ss) number above = above_all ss number (λ j d lt. above (suc j) d (omega arith))

rest_parted : (ss : List Slot) (s : Slot) (number at : ℕ) → IsParted (s ∷ ss) number (suc at) → IsParted ss number at
rest_parted ss s number at parted = record {
  in_range = let le = parted.in_range in omega arith;
  before = λ j d lt. parted.before (suc j) d (omega arith);
  behind = λ j d le lt. parted.behind (suc j) d (omega arith) (omega arith);
}

pub first_parted : (ss : List Slot) (number at : ℕ) → IsParted ss number at → first_above number (numbers ss) ≡ first_number (drop at ss)
first_parted [] number zero parted = refl
first_parted [] number (suc at) parted = refl
first_parted (s ∷ ss) number zero parted = above_all (s ∷ ss) number (λ j d lt. parted.behind j d (omega arith) lt)
first_parted (Held n r ∷ ss) number (suc at) parted =
    ap (λ b. cond b (Some n) (first_above number (numbers ss))) (le-ltb number n (parted.before 0 (Held n r) (omega arith)))
    ∙ first_parted ss number at (rest_parted ss (Held n r) number at parted)
first_parted (Gone n ∷ ss) number (suc at) parted = first_parted ss number at (rest_parted ss (Gone n) number at parted)

-- It is above the given number.
pub first_higher : (ns : List ℕ) (number : ℕ) (o : Option ℕ) → o ≡ first_above number ns → IfSome o (λ n. number < n)
first_higher ns number None is = tt
first_higher [] number (Some n) is = absurd (cc)
first_higher (m ∷ ns) number (Some n) is = by_test (nat_lt number m) refl is (first_higher ns number (Some n))
  where
    by_test : (b : Bool) → nat_lt number m ≡ b → Some n ≡ cond b (Some m) (first_above number ns) → (Some n ≡ first_above number ns → number < n) → number < n
    by_test true higher found later = let same : n ≡ m = cc in subst (λ k. number < k) (sym same) (ltb-true number m higher)
    by_test false lower found later = later found

place_later : (ns : List ℕ) (m n : ℕ) → HasNumber ns n → HasNumber (m ∷ ns) n
place_later ns m n there = either (m == n)
  where
    either : (b : Bool) → cond b 0 (suc (position_in ns n)) < suc (length ns)
    either true = omega arith
    either false = omega arith

-- It occurs.
pub first_there : (ns : List ℕ) (number : ℕ) (o : Option ℕ) → o ≡ first_above number ns → IfSome o (HasNumber ns)
first_there ns number None is = tt
first_there [] number (Some n) is = absurd (cc)
first_there (m ∷ ns) number (Some n) is = by_test (nat_lt number m) is (first_there ns number (Some n))
  where
    by_test : (b : Bool) → Some n ≡ cond b (Some m) (first_above number ns) → (Some n ≡ first_above number ns → HasNumber ns n) → HasNumber (m ∷ ns) n
    by_test true found later = let same : m ≡ n = cc in subst (λ p. p < suc (length ns)) (sym (ap (λ b. cond b 0 (suc (position_in ns n))) (eq_yes m n same))) (omega arith)
    by_test false found later = place_later ns m n (later found)

-- ## The numbers are in ascending order

below_numbers : (k : ℕ) (ss : List Slot) → T (below_all nat_cmp k (map slot_entry ss)) → AllByRecursion (λ n. nat_cmp k n ≡ Less) (numbers ss)
below_numbers k [] h = tt
below_numbers k (Held n r ∷ ss) h = (less_from _ (first_of _ _ h), below_numbers k ss (second_of _ _ h))
below_numbers k (Gone n ∷ ss) h = below_numbers k ss (second_of _ _ h)

t_ascending : (ss : List Slot) → T (is_sorted nat_cmp (map slot_entry ss)) → IsStrictlySortedBy nat_cmp (numbers ss)
unfolding IsStrictlySortedBy
t_ascending [] h = tt
t_ascending (Held n r ∷ ss) h = (below_numbers n ss (first_of _ _ h), t_ascending ss (second_of _ _ h))
t_ascending (Gone n ∷ ss) h = t_ascending ss (second_of _ _ h)

pub ascending : (ss : List Slot) → IsTrue (is_sorted nat_cmp (map slot_entry ss)) → IsStrictlyIncreasing (numbers ss)
ascending ss sorted = IsStrictlyIncreasing-from_sorted (numbers ss) (t_ascending ss (t_from _ sorted))

-- ## Gone slots that were deleted at the end

pub record IsTrimmed (old new : Vec Slot Global) : Type 0 where
  pub rows : held new.items ≡ held old.items
  pub keys : numbers new.items ≡ numbers old.items
  pub order : IsTrue (is_sorted nat_cmp (map slot_entry new.items))
  pub count : gone_count new.items + vec_len old ≡ gone_count old.items + vec_len new
  pub len : vec_len new ≤ vec_len old
  pub capacity : vec_capacity new ≡ vec_capacity old

pub trimmed_more : (old between new : Vec Slot Global) (n : ℕ) → IsTrimmed old between → between.items ≡ new.items ++ Gone n ∷ [] → vec_len new + 1 ≡ vec_len between → vec_capacity new ≡ vec_capacity between → IsTrimmed old new
trimmed_more old between new n kept split shorter same = record {
  rows = sym (ap held split ∙ held_append new.items (Gone n ∷ []) ∙ append-nil (held new.items)) ∙ kept.rows;
  keys = sym (ap numbers split ∙ numbers_append new.items (Gone n ∷ []) ∙ append-nil (numbers new.items)) ∙ kept.keys;
  order = sorted_front new.items (Gone n ∷ []) (subst (λ ss. IsTrue (is_sorted nat_cmp (map slot_entry ss))) split kept.order);
  count = omega (arith, kept.count, ap gone_count split, count_append new.items (Gone n ∷ []));
  len = omega (arith, kept.len);
  capacity = same ∙ kept.capacity;
}

-- ## The number after an existing one

first_all : (n : ℕ) (ns : List ℕ) → AllByRecursion (λ m. nat_cmp n m ≡ Less) ns → first_above n ns ≡ slice_get ns 0
first_all n [] all = refl
first_all n (m ∷ ns) all = ap (λ b. cond b (Some m) (first_above n ns)) (lt-ltb n m (is_less n m all.0))

all_there : (n : ℕ) (ns : List ℕ) → AllByRecursion (λ m. nat_cmp n m ≡ Less) ns → (at number : ℕ) → slice_get ns at ≡ Some number → n ≤ number
all_there n [] all at number is = absurd (cc)
all_there n (m ∷ ns) all zero number is = let same : m ≡ number = cc in subst (λ k. n ≤ k) same (let less = is_less n m all.0 in omega arith)
all_there n (m ∷ ns) all (suc at) number is = all_there n ns all.1 at number is

behind_in : (ns : List ℕ) → IsStrictlySortedBy nat_cmp ns → (at number : ℕ) → slice_get ns at ≡ Some number → first_above number ns ≡ slice_get ns (suc at)
unfolding IsStrictlySortedBy
behind_in [] up at number is = absurd (cc)
behind_in (n ∷ ns) up zero number is =
    let same : n ≡ number = cc in
    subst (λ k. first_above k (n ∷ ns) ≡ slice_get ns 0) same
    (ap (λ b. cond b (Some n) (first_above n ns)) (le-ltb n n (omega arith)) ∙ first_all n ns up.0)
behind_in (n ∷ ns) up (suc at) number is =
    ap (λ b. cond b (Some n) (first_above number ns)) (le-ltb number n (all_there n ns up.0 at number is))
    ∙ behind_in ns up.1 at number is

pub first_behind : (ss : List Slot) → IsTrue (is_sorted nat_cmp (map slot_entry ss)) → (at number : ℕ) → slice_get (numbers ss) at ≡ Some number → first_above number (numbers ss) ≡ slice_get (numbers ss) (at + 1)
first_behind ss sorted at number is = rw add-one (behind_in (numbers ss) (t_ascending ss (t_from _ sorted)) at number is)

-- The least number.
pub first_is : (ss : List Slot) → first_number ss ≡ slice_get (numbers ss) 0
first_is [] = refl
first_is (Held n r ∷ ss) = refl
first_is (Gone n ∷ ss) = first_is ss
