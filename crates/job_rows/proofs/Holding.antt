-- The contents of slots: the position of a number among those with a row, and the effect of changing a slot.
use Rattle.std.proofs.Common.{◌≡◌, ℕ, zero, suc, ◌+◌, ◌-◌, ◌<◌, ◌≤◌, ◌==◌, true, false, cond, IsTrue, List, [], ◌∷◌, length, get_or, set, map, Some, None, Option, IsSome, inl, inr, true≢false, length-set, refl, sym, ap, subst, ◌∙◌, arith}
use Rattle.std.specs.Prelude.{IfNone, ◌↔◌, option_copied}
use Rattle.std.specs.Borrow.{Bor}
use Rattle.std.specs.List.{remove, AllWithin}
use Rattle.std.specs.declared.cmp.Ordering.TheVariants.{Less, Equal, Greater}
use Rattle.std.specs.Ordering.{nat_cmp}
use Rattle.std.specs.Cmp.{nat_cmp_total, nat_cmp_is}
use Rattle.std.proofs.lemmas.Cmp.{ranked}
use Rattle.std.proofs.lemmas.Bool.{cases_eq, cases_lt, leb-true, leb-false}
use Rattle.std.proofs.lemmas.Bool.Decides.{eqb_tells}
use Rattle.std.proofs.lemmas.List.{get_or_default, get_or-map, get_or-set_other}
use Rattle.std.proofs.lemmas.Grind.{get_or-set_at}
use Rattle.std.proofs.lemmas.List.Sorted.{IsPartitionedBy-leb}
use Rattle.std.specs.List.Sorted.{IsNonDecreasingBy, IsPartitionedBy}
use Rattle.std.proofs.Math.Dec.{leb}
use Rattle.std.specs.FinMap.Entries.{is_sorted}
use Rattle.spool_types.specs.declared.rows.JobRow.{JobRow}
use Rattle.job_rows.specs.declared.slot.Slot.{Slot}
use Rattle.job_rows.specs.declared.slot.Slot.TheVariants.{Held, Gone}
use Rattle.job_rows.specs.RowPositions.{IsPosition, IsGap}
use Rattle.job_rows.specs.NumberedRows.{position_in, HasNumber, LacksNumber}
use Rattle.job_rows.specs.RowSlots.{number_of, slot_entry, row_of, held, numbers, gone_count, EndsHeld, IsParted}
use Rattle.job_rows.proofs.Rising.{t_from, rise, sorted_set}

-- ## Two numbers

pub is_less : (x y : ℕ) → nat_cmp x y ≡ Less → x < y
is_less x y e = ranked x y Less (sym e)

pub is_equal : (x y : ℕ) → nat_cmp x y ≡ Equal → x ≡ y
is_equal x y e = ranked x y Equal (sym e)

pub less_is : (x y : ℕ) → x < y → nat_cmp x y ≡ Less
less_is x y lt = sym (nat_cmp_is x y Less lt)

pub equal_is : (x y : ℕ) → x ≡ y → nat_cmp x y ≡ Equal
equal_is x y same = sym (nat_cmp_is x y Equal same)

pub greater_is : (x y : ℕ) → y < x → nat_cmp x y ≡ Greater
greater_is x y lt = sym (nat_cmp_is x y Greater lt)

is_greater : (x y : ℕ) → nat_cmp x y ≡ Greater → y < x
is_greater x y e = ranked x y Greater (sym e)

pub eq_yes : (x y : ℕ) → x ≡ y → (x == y) ≡ true
eq_yes x y same = elim (eqb_tells x y) [ inl told ↦ told.0 | inr told ↦ absurd (told.1 same) ]

eq_no : (x y : ℕ) → ¬ (x ≡ y) → (x == y) ≡ false
eq_no x y apart = elim (eqb_tells x y) [ inl told ↦ absurd (apart told.1) | inr told ↦ told.0 ]

le_of_lt : (x y : ℕ) → x < y → x ≤ y
le_of_lt x y lt = omega arith

-- ## The count

-- A slot that is not gone has a row.
pub length_held : (ss : List Slot) → length (held ss) + gone_count ss ≡ length ss
length_held [] = refl
length_held (Held n r ∷ ss) = let rest = length_held ss in omega arith
length_held (Gone n ∷ ss) = let rest = length_held ss in omega arith

-- Each row has its number.
pub length_numbers : (ss : List Slot) → length (numbers ss) ≡ length (held ss)
length_numbers [] = refl
length_numbers (Held n r ∷ ss) = ap suc (length_numbers ss)
length_numbers (Gone n ∷ ss) = length_numbers ss

-- ## The seat of a slot: the number of rows before it

abbrev pub seat : List Slot → ℕ → ℕ
seat [] i = 0
seat (s ∷ ss) zero = 0
seat (Held n r ∷ ss) (suc i) = suc (seat ss i)
seat (Gone n ∷ ss) (suc i) = seat ss i

pub seat_within : (ss : List Slot) (i : ℕ) → seat ss i ≤ length (numbers ss)
seat_within [] i = omega arith
seat_within (s ∷ ss) zero = omega arith
seat_within (Held n r ∷ ss) (suc i) = let rest = seat_within ss i in omega arith
seat_within (Gone n ∷ ss) (suc i) = seat_within ss i

module _ (n : ℕ) (r : JobRow) where
  -- The seat of a slot with a row is a position among the rows.
  pub seat_below : (ss : List Slot) (i : ℕ) (d : Slot) → i < length ss → get_or ss i d ≡ Held n r → seat ss i < length (numbers ss)
  seat_below [] i d lt is = absurd (omega arith)
  seat_below (Held m q ∷ ss) zero d lt is = omega arith
  seat_below (Gone m ∷ ss) zero d lt is = absurd (cc)
  seat_below (Held m q ∷ ss) (suc i) d lt is = let rest = seat_below ss i d (omega arith) is in omega arith
  seat_below (Gone m ∷ ss) (suc i) d lt is = seat_below ss i d (omega arith) is

  -- The row and its number are at that position.
  pub held_at : (ss : List Slot) (i : ℕ) (d : Slot) (e : JobRow) → i < length ss → get_or ss i d ≡ Held n r → get_or (held ss) (seat ss i) e ≡ r
  held_at [] i d e lt is = absurd (omega arith)
  held_at (Held m q ∷ ss) zero d e lt is = cc
  held_at (Gone m ∷ ss) zero d e lt is = absurd (cc)
  held_at (Held m q ∷ ss) (suc i) d e lt is = held_at ss i d e (omega arith) is
  held_at (Gone m ∷ ss) (suc i) d e lt is = held_at ss i d e (omega arith) is

  pub number_at : (ss : List Slot) (i : ℕ) (d : Slot) (e : ℕ) → i < length ss → get_or ss i d ≡ Held n r → get_or (numbers ss) (seat ss i) e ≡ n
  number_at [] i d e lt is = absurd (omega arith)
  number_at (Held m q ∷ ss) zero d e lt is = cc
  number_at (Gone m ∷ ss) zero d e lt is = absurd (cc)
  number_at (Held m q ∷ ss) (suc i) d e lt is = number_at ss i d e (omega arith) is
  number_at (Gone m ∷ ss) (suc i) d e lt is = number_at ss i d e (omega arith) is

  -- A row is replaced.
  pub held_set : (ss : List Slot) (i : ℕ) (d : Slot) (w : JobRow) → i < length ss → get_or ss i d ≡ Held n r → held (set ss i (Held n w)) ≡ set (held ss) (seat ss i) w
  held_set [] i d w lt is = absurd (omega arith)
  held_set (Held m q ∷ ss) zero d w lt is = refl
  held_set (Gone m ∷ ss) zero d w lt is = absurd (cc)
  held_set (Held m q ∷ ss) (suc i) d w lt is = ap (λ rs. q ∷ rs) (held_set ss i d w (omega arith) is)
  held_set (Gone m ∷ ss) (suc i) d w lt is = held_set ss i d w (omega arith) is

  pub numbers_set : (ss : List Slot) (i : ℕ) (d : Slot) (w : JobRow) → i < length ss → get_or ss i d ≡ Held n r → numbers (set ss i (Held n w)) ≡ numbers ss
  numbers_set [] i d w lt is = absurd (omega arith)
  numbers_set (Held m q ∷ ss) zero d w lt is = let same : n ≡ m = cc in ap (λ k. k ∷ numbers ss) same
  numbers_set (Gone m ∷ ss) zero d w lt is = absurd (cc)
  numbers_set (Held m q ∷ ss) (suc i) d w lt is = ap (λ ns. m ∷ ns) (numbers_set ss i d w (omega arith) is)
  numbers_set (Gone m ∷ ss) (suc i) d w lt is = numbers_set ss i d w (omega arith) is

  pub count_set : (ss : List Slot) (i : ℕ) (d : Slot) (w : JobRow) → i < length ss → get_or ss i d ≡ Held n r → gone_count (set ss i (Held n w)) ≡ gone_count ss
  count_set [] i d w lt is = absurd (omega arith)
  count_set (Held m q ∷ ss) zero d w lt is = refl
  count_set (Gone m ∷ ss) zero d w lt is = absurd (cc)
  count_set (Held m q ∷ ss) (suc i) d w lt is = count_set ss i d w (omega arith) is
  count_set (Gone m ∷ ss) (suc i) d w lt is = ap (λ k. k + 1) (count_set ss i d w (omega arith) is)

  -- A row is removed.
  pub held_gone : (ss : List Slot) (i : ℕ) (d : Slot) (k : ℕ) → i < length ss → get_or ss i d ≡ Held n r → held (set ss i (Gone k)) ≡ remove (held ss) (seat ss i)
  held_gone [] i d k lt is = absurd (omega arith)
  held_gone (Held m q ∷ ss) zero d k lt is = refl
  held_gone (Gone m ∷ ss) zero d k lt is = absurd (cc)
  held_gone (Held m q ∷ ss) (suc i) d k lt is = ap (λ rs. q ∷ rs) (held_gone ss i d k (omega arith) is)
  held_gone (Gone m ∷ ss) (suc i) d k lt is = held_gone ss i d k (omega arith) is

  pub numbers_gone : (ss : List Slot) (i : ℕ) (d : Slot) (k : ℕ) → i < length ss → get_or ss i d ≡ Held n r → numbers (set ss i (Gone k)) ≡ remove (numbers ss) (seat ss i)
  numbers_gone [] i d k lt is = absurd (omega arith)
  numbers_gone (Held m q ∷ ss) zero d k lt is = refl
  numbers_gone (Gone m ∷ ss) zero d k lt is = absurd (cc)
  numbers_gone (Held m q ∷ ss) (suc i) d k lt is = ap (λ ns. m ∷ ns) (numbers_gone ss i d k (omega arith) is)
  numbers_gone (Gone m ∷ ss) (suc i) d k lt is = numbers_gone ss i d k (omega arith) is

  pub count_gone : (ss : List Slot) (i : ℕ) (d : Slot) (k : ℕ) → i < length ss → get_or ss i d ≡ Held n r → gone_count (set ss i (Gone k)) ≡ gone_count ss + 1
  count_gone [] i d k lt is = absurd (omega arith)
  count_gone (Held m q ∷ ss) zero d k lt is = refl
  count_gone (Gone m ∷ ss) zero d k lt is = absurd (cc)
  count_gone (Held m q ∷ ss) (suc i) d k lt is = count_gone ss i d k (omega arith) is
  count_gone (Gone m ∷ ss) (suc i) d k lt is = ap (λ c. c + 1) (count_gone ss i d k (omega arith) is)

  -- The seat of the first slot of a number is the position of the number.
  pub place_seat : (ss : List Slot) (i : ℕ) (d : Slot) → i < length ss → get_or ss i d ≡ Held n r → ((j : ℕ) (e : Slot) → j < i → number_of (get_or ss j e) < n) → position_in (numbers ss) n ≡ seat ss i
  place_seat [] i d lt is before = absurd (omega arith)
  place_seat (Held m q ∷ ss) zero d lt is before = let same : n ≡ m = cc in subst (λ k. cond (m == k) 0 (suc (position_in (numbers ss) k)) ≡ 0) (sym same) (ap (λ b. cond b 0 (suc (position_in (numbers ss) m))) (eq_yes m m refl))
  place_seat (Gone m ∷ ss) zero d lt is before = absurd (cc)
  place_seat (Held m q ∷ ss) (suc i) d lt is before =
      let lower = before 0 (Held m q) (omega arith) in
      ap (λ b. cond b 0 (suc (position_in (numbers ss) n))) (eq_no m n (λ (same : m ≡ n). omega arith))
      ∙ ap suc (place_seat ss i d (omega arith) is (λ j e l. before (suc j) e (omega arith)))
  place_seat (Gone m ∷ ss) (suc i) d lt is before = place_seat ss i d (omega arith) is (λ j e l. before (suc j) e (omega arith))

-- ## Properties of the numbers before a seat, and from it on

module _ (P : ℕ → Type 0) where
  pub each_number : (ss : List Slot) → ((j : ℕ) (d : Slot) (n : ℕ) (r : JobRow) → j < length ss → get_or ss j d ≡ Held n r → P n) → (j : ℕ) (e : ℕ) → j < length (numbers ss) → P (get_or (numbers ss) j e)
  each_number [] each j e lt = absurd (omega arith)
  each_number (Held m q ∷ ss) each zero e lt = each 0 (Held m q) m q (omega arith) refl
  each_number (Held m q ∷ ss) each (suc j) e lt = each_number ss (λ k d n r l is. each (suc k) d n r (omega arith) is) j e (omega arith)
  each_number (Gone m ∷ ss) each j e lt = each_number ss (λ k d n r l is. each (suc k) d n r (omega arith) is) j e lt

  pub each_before : (ss : List Slot) (i : ℕ) → ((j : ℕ) (d : Slot) (n : ℕ) (r : JobRow) → j < i → get_or ss j d ≡ Held n r → P n) → (j : ℕ) (e : ℕ) → j < seat ss i → P (get_or (numbers ss) j e)
  each_before [] i each j e lt = absurd (omega arith)
  each_before (s ∷ ss) zero each j e lt = absurd (omega arith)
  each_before (Held m q ∷ ss) (suc i) each zero e lt = each 0 (Held m q) m q (omega arith) refl
  each_before (Held m q ∷ ss) (suc i) each (suc j) e lt = each_before ss i (λ k d n r l is. each (suc k) d n r (omega arith) is) j e (omega arith)
  each_before (Gone m ∷ ss) (suc i) each j e lt = each_before ss i (λ k d n r l is. each (suc k) d n r (omega arith) is) j e lt

  pub each_behind : (ss : List Slot) (i : ℕ) → ((j : ℕ) (d : Slot) (n : ℕ) (r : JobRow) → i ≤ j → j < length ss → get_or ss j d ≡ Held n r → P n) → (j : ℕ) (e : ℕ) → seat ss i ≤ j → j < length (numbers ss) → P (get_or (numbers ss) j e)
  each_behind [] i each j e le lt = absurd (omega arith)
  each_behind (s ∷ ss) zero each j e le lt = each_number (s ∷ ss) (λ k d n r l is. each k d n r (omega arith) l is) j e lt
  each_behind (Held m q ∷ ss) (suc i) each zero e le lt = absurd (omega arith)
  each_behind (Held m q ∷ ss) (suc i) each (suc j) e le lt = each_behind ss i (λ k d n r l h is. each (suc k) d n r (omega arith) (omega arith) is) j e (omega arith) (omega arith)
  each_behind (Gone m ∷ ss) (suc i) each j e le lt = each_behind ss i (λ k d n r l h is. each (suc k) d n r (omega arith) (omega arith) is) j e le lt

-- ## The position of a number, and the gap for one

held_not_gone : (n : ℕ) (r : JobRow) (m : ℕ) → Held n r ≡ Gone m → ⊥
held_not_gone n r m e = cc

-- A number with a gap has no position.
no_place : (ns : List ℕ) (k : ℕ) → ((j d : ℕ) → j < length ns → ¬ (get_or ns j d ≡ k)) → position_in ns k ≡ length ns
no_place [] k apart = refl
no_place (n ∷ ns) k apart = ap (λ b. cond b 0 (suc (position_in ns k))) (eq_no n k (apart 0 n (omega arith))) ∙ ap suc (no_place ns k (λ j d lt. apart (suc j) d (omega arith)))

pub lacking : (ns : List ℕ) (k : ℕ) → LacksNumber ns k → HasNumber ns k → ⊥
lacking ns k lacks there =
    let none = no_place ns k (λ j d lt same. elim (cases_lt j lacks.0) [
      | inl below ↦ differs_below (get_or ns j d) k (is_less _ _ (lacks.1.before j d below)) same
      | inr above ↦ differs_above (get_or ns j d) k (is_greater _ _ (lacks.1.behind j d above lt)) same
    ]) in
    omega arith
  where
    differs_below : (x y : ℕ) → x < y → x ≡ y → ⊥
    differs_below x y lt same = omega arith

    differs_above : (x y : ℕ) → y < x → x ≡ y → ⊥
    differs_above x y lt same = omega arith

module _ (ss : List Slot) (sorted : IsTrue (is_sorted nat_cmp (map slot_entry ss))) (k i : ℕ) where
  -- No slot has the number.
  pub row_gap : IsGap nat_cmp number_of ss k i → LacksNumber (numbers ss) k
  row_gap gap = (
    seat ss i,
    record {
      in_range = seat_within ss i;
      before = each_before (λ n. nat_cmp n k ≡ Less) ss i (λ j d n r lt is. ap (λ s. nat_cmp (number_of s) k) (sym is) ∙ gap.before j d lt);
      behind = each_behind (λ n. nat_cmp n k ≡ Greater) ss i (λ j d n r le lt is. ap (λ s. nat_cmp (number_of s) k) (sym is) ∙ gap.behind j d le lt);
    },
  )

  module _ (at : IsPosition nat_cmp number_of ss k i) where
    lower : (j : ℕ) (e : Slot) → j < i → number_of (get_or ss j e) < k
    lower j e lt = subst (λ n. number_of (get_or ss j e) < n) (is_equal _ _ (at.same e)) (is_less _ _ (rise nat_cmp nat_cmp_total number_of (λ s. s) ss (t_from _ sorted) j i e lt at.in_range))

    higher : (j : ℕ) (e : Slot) → i < j → j < length ss → k < number_of (get_or ss j e)
    higher j e lt in_range = subst (λ n. n < number_of (get_or ss j e)) (is_equal _ _ (at.same e)) (is_less _ _ (rise nat_cmp nat_cmp_total number_of (λ s. s) ss (t_from _ sorted) i j e lt in_range))

    -- The slot of the number is gone.
    pub gone_gap : (m : ℕ) (d : Slot) → get_or ss i d ≡ Gone m → LacksNumber (numbers ss) k
    gone_gap m d is = (
      seat ss i,
      record {
        in_range = seat_within ss i;
        before = each_before (λ n. nat_cmp n k ≡ Less) ss i (λ j e n r lt here. less_is n k (subst (λ s. number_of s < k) here (lower j e lt)));
        behind = each_behind (λ n. nat_cmp n k ≡ Greater) ss i (λ j e n r le lt here. greater_is n k (above j e n r le lt here));
      },
    )
      where
        above : (j : ℕ) (e : Slot) (n : ℕ) (r : JobRow) → i ≤ j → j < length ss → get_or ss j e ≡ Held n r → k < n
        above j e n r le in_range here = elim (cases_lt i j) [
          | inl lt ↦ subst (λ s. k < number_of s) here (higher j e lt in_range)
          | inr ge ↦ let same : j ≡ i = omega arith in absurd (held_not_gone n r m (sym here ∙ ap (λ p. get_or ss p e) same ∙ get_or_default ss i e d at.in_range ∙ is))
        ]

    -- The slot of the number has a row.
    module _ (n : ℕ) (r : JobRow) (d : Slot) (is : get_or ss i d ≡ Held n r) where
      pub own_number : n ≡ k
      own_number = ap number_of (sym is) ∙ is_equal _ _ (at.same d)

      pub place_is : position_in (numbers ss) k ≡ seat ss i
      place_is = subst (λ m. position_in (numbers ss) m ≡ seat ss i) own_number (place_seat n r ss i d at.in_range is (λ j e lt. subst (λ m. number_of (get_or ss j e) < m) (sym own_number) (lower j e lt)))

      pub has_number : HasNumber (numbers ss) k
      has_number = let below = seat_below n r ss i d at.in_range is in subst (λ p. p < length (numbers ss)) (sym place_is) below

      pub number_place : IsPosition nat_cmp (λ m. m) (numbers ss) k (position_in (numbers ss) k)
      number_place = record {
        in_range = has_number;
        same = λ e. equal_is _ _ (ap (λ p. get_or (numbers ss) p e) place_is ∙ number_at n r ss i d e at.in_range is ∙ own_number);
      }

      pub row_place : (e : JobRow) → get_or (held ss) (position_in (numbers ss) k) e ≡ r
      row_place e = ap (λ p. get_or (held ss) p e) place_is ∙ held_at n r ss i d e at.in_range is

-- ## The slot of an existing number

-- The slot that was read has the row.
pub slot_is : (ss : List Slot) (i : ℕ) (s : Slot) (r : JobRow) → s ≡ get_or ss i s → row_of s ≡ Some r → get_or ss i s ≡ Held (number_of s) r
slot_is ss i (Held n q) r read row = sym read ∙ ap (λ w. Held n w) (let same : q ≡ r = cc in same)
slot_is ss i (Gone n) r read row = absurd (cc)

module _ (ss : List Slot) (sorted : IsTrue (is_sorted nat_cmp (map slot_entry ss))) (k i : ℕ) where
  pub no_gap : HasNumber (numbers ss) k → IsGap nat_cmp number_of ss k i → ⊥
  no_gap there gap = lacking (numbers ss) k (row_gap ss sorted k i gap) there

  pub has_row : HasNumber (numbers ss) k → (s : Slot) → s ≡ get_or ss i s → IsPosition nat_cmp number_of ss k i → IsSome (row_of s)
  has_row there (Held n r) is at = refl
  has_row there (Gone n) is at = absurd (lacking (numbers ss) k (gone_gap ss sorted k i at n (Gone n) (sym is)) there)

-- ## A slot is replaced

-- The last slot still has a row.
pub ends_set : (ss : List Slot) (i n : ℕ) (w : JobRow) → i < length ss → EndsHeld ss → EndsHeld (set ss i (Held n w))
ends_set ss i n w lt ends = λ some.
    let long = length-set ss i (Held n w) in
    let last = length ss - 1 in
    let here : length (set ss i (Held n w)) - 1 ≡ last = omega arith in
    subst (λ p. IsSome (get_or (map row_of (set ss i (Held n w))) p None)) (sym here)
    (subst IsSome (sym (get_or-map row_of (set ss i (Held n w)) last (Held n w) None (omega arith)))
    (elim (cases_eq last i) [
      | inl same ↦ subst (λ s. IsSome (row_of s)) (sym (get_or-set_at ss i last (Held n w) (Held n w) same lt)) refl
      | inr other ↦ subst (λ s. IsSome (row_of s)) (sym (get_or-set_other ss i last (Held n w) (Held n w) other)) (subst IsSome (get_or-map row_of ss last (Held n w) None (omega arith)) (ends (omega arith)))
    ]))

-- A slot of the same number keeps the order.
pub order_set : (ss : List Slot) → IsTrue (is_sorted nat_cmp (map slot_entry ss)) → (k i : ℕ) (d s : Slot) → IsPosition nat_cmp number_of ss k i → number_of (get_or ss i d) ≡ number_of s → IsTrue (is_sorted nat_cmp (map slot_entry (set ss i s)))
order_set ss sorted k i d s at same = sorted_set nat_cmp nat_cmp_total number_of (λ s. s) ss sorted s k i d at same

-- ## Numbers up to a given one

-- The numbers do not decrease.
pub rising : (ss : List Slot) → IsTrue (is_sorted nat_cmp (map slot_entry ss)) → IsNonDecreasingBy number_of ss
rising ss sorted i j d le lt = elim (cases_lt i j) [
  | inl below ↦ le_of_lt (number_of (get_or ss i d)) (number_of (get_or ss j d)) (is_less _ _ (rise nat_cmp nat_cmp_total number_of (λ s. s) ss (t_from _ sorted) i j d below lt))
  | inr ge ↦ let same : i ≡ j = omega arith in subst (λ k. number_of (get_or ss i d) ≤ number_of (get_or ss k d)) same (omega arith)
]

pub parted_rows : (ss : List Slot) → IsTrue (is_sorted nat_cmp (map slot_entry ss)) → (number : ℕ) → IsPartitionedBy (λ s. leb (number_of s) number) ss
parted_rows ss sorted number = IsPartitionedBy-leb number_of ss number (rising ss sorted)

pub parted_point : (ss : List Slot) (number at : ℕ) → at ≤ length ss → AllWithin (λ s. leb (number_of s) number ≡ true) ss 0 at → AllWithin (λ s. leb (number_of s) number ≡ false) ss at (length ss) → IsParted ss number at
parted_point ss number at in_range low high = record {
  in_range = in_range;
  before = λ j d lt. leb-true _ _ (low j d (omega arith) lt);
  behind = λ j d le lt. leb-false _ _ (high j d le lt);
}

-- ## The result of reading the slot of a number

module _ (ss : List Slot) (sorted : IsTrue (is_sorted nat_cmp (map slot_entry ss))) (k i : ℕ) where
  pub looked_there : (s : Slot) → s ≡ get_or ss i s → IsPosition nat_cmp number_of ss k i → (o : Option (Bor JobRow)) → option_copied o ≡ row_of s → IsSome o ↔ HasNumber (numbers ss) k
  looked_there (Held n r) is at None read = absurd (cc)
  looked_there (Held n r) is at (Some b) read = (λ some. has_number ss sorted k i at n r (Held n r) (sym is), λ there. refl)
  looked_there (Gone n) is at None read = (λ some. absurd (true≢false (sym some)), λ there. absurd (lacking (numbers ss) k (gone_gap ss sorted k i at n (Gone n) (sym is)) there))
  looked_there (Gone n) is at (Some b) read = absurd (cc)

  pub looked_absent : (s : Slot) → s ≡ get_or ss i s → IsPosition nat_cmp number_of ss k i → (o : Option (Bor JobRow)) → option_copied o ≡ row_of s → IfNone o (LacksNumber (numbers ss) k)
  looked_absent (Held n r) is at None read = absurd (cc)
  looked_absent (Gone n) is at None read = gone_gap ss sorted k i at n (Gone n) (sym is)
  looked_absent s is at (Some b) read = tt

-- A number that does not occur has no row.
pub lacks_there : (ns : List ℕ) (k : ℕ) → LacksNumber ns k → IsSome {T = Bor JobRow} None ↔ HasNumber ns k
lacks_there ns k lacks = (λ some. absurd (true≢false (sym some)), λ there. absurd (lacking ns k lacks there))
