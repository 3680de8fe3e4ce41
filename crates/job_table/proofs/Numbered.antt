-- Rows under their own numbers: the position of a row, and the effect of a change of the rows on the numbers.
use Rattle.std.proofs.Common.{◌≡◌, ℕ, zero, suc, ◌+◌, ◌-◌, ◌<◌, ◌≤◌, ◌==◌, Bool, true, false, cond, IsTrue, List, [], ◌∷◌, ◌++◌, length, get_or, set, map, Option, None, Some, IsSome, refl, sym, ap, subst, ◌∙◌, arith, rules}
use Rattle.std.specs.Prelude.{IfSome, IfNone, All, slice_get}
use Rattle.std.specs.Borrow.{Bor}
use Rattle.std.specs.Option.{option_copied, option_map}
use Rattle.std.specs.List.{remove}
use Rattle.std.specs.declared.cmp.Ordering.TheVariants.{Less}
use Rattle.std.specs.Ordering.{nat_cmp, is_eq}
use Rattle.std.specs.Cmp.{nat_cmp_total, nat_cmp_is, tied_itself}
use Rattle.std.specs.FinMap as finite
use Rattle.std.proofs.Math.Seq.{map-set_same}
use Rattle.std.proofs.lemmas.Cmp.{ranked}
use Rattle.std.proofs.lemmas.List.{get_or_default, get_or-map, length-map, map_push}
use Rattle.std.proofs.lemmas.Option.{slice_get_within, get_or_from_slice_get}
use Rattle.spool_types.specs.Limits.{greatest_number}
use Rattle.spool_types.specs.declared.rows.JobRow.{JobRow}
use Rattle.spool_types.specs.State.{Job, job_of}
use Rattle.job_rows.specs.NumberedRows.{Listed, position_in, HasNumber, HasRow, LacksNumber}
use Rattle.job_table.specs.TableRows.{job_entry}
use Rattle.job_table.proofs.Changes.{same_number}
use Rattle.job_table.proofs.Rows.{t_from, true_from, second_of, rise}
use Rattle.job_table.proofs.Tables.{IsJobPlace, IsJobGap, get_job, get_no_job, find_job, jobs_of}

abbrev pub numbers_of : List JobRow → List ℕ
numbers_of rs = map (λ (r : JobRow). r.job.id) rs

-- The rows with this one at the position.
abbrev pub with_at : Listed → ℕ → JobRow → Listed
with_at rows at row = record rows { items = set rows.items at row }

-- ## The effect of a change on the numbers

pub numbers_set : (rs : List JobRow) (at : ℕ) (row d : JobRow) → (get_or rs at d).job.id ≡ row.job.id → numbers_of (set rs at row) ≡ numbers_of rs
numbers_set rs at row d same = map-set_same (λ (r : JobRow). r.job.id) rs at row d (sym same)

pub numbers_push : (rs : List JobRow) (row : JobRow) → numbers_of (rs ++ row ∷ []) ≡ numbers_of rs ++ row.job.id ∷ []
numbers_push rs row = map_push (λ (r : JobRow). r.job.id) rs row

pub numbers_remove : (rs : List JobRow) (at : ℕ) → numbers_of (remove rs at) ≡ remove (numbers_of rs) at
numbers_remove [] zero = refl
numbers_remove [] (suc at) = refl
numbers_remove (r ∷ rs) zero = refl
numbers_remove (r ∷ rs) (suc at) = ap (λ ns. r.job.id ∷ ns) (numbers_remove rs at)

-- The rows with one more at the end.
pub numbers_pushed : (old new : Listed) (row : JobRow) → old.numbers ≡ numbers_of old.items → new.numbers ≡ old.numbers ++ row.job.id ∷ [] → new.items ≡ old.items ++ row ∷ [] → new.numbers ≡ numbers_of new.items
numbers_pushed old new row own numbers items =
    numbers
    ∙ ap (λ ns. ns ++ row.job.id ∷ []) own
    ∙ sym (numbers_push old.items row)
    ∙ ap (λ rs. numbers_of rs) (sym items)

-- The rows with one less.
pub numbers_removed : (old new : Listed) (at : ℕ) → old.numbers ≡ numbers_of old.items → new.numbers ≡ remove old.numbers at → new.items ≡ remove old.items at → new.numbers ≡ numbers_of new.items
numbers_removed old new at own numbers items =
    numbers
    ∙ ap (λ ns. remove ns at) own
    ∙ sym (numbers_remove old.items at)
    ∙ ap (λ rs. numbers_of rs) (sym items)

-- ## The position of a number is that of its row

-- Each row is at the position of its number.
pub own_place : (rs : List JobRow) (i : ℕ) (d : JobRow) → i < length rs → IsJobPlace rs (get_or rs i d).job.id i
own_place rs i d lt = record {
  in_range = lt;
  same = λ e. ap (λ (r : JobRow). nat_cmp r.job.id (get_or rs i d).job.id) (get_or_default rs i e d lt) ∙ tied_itself nat_cmp_total (get_or rs i d).job.id;
}

-- A row with a number above all others is appended.
pub end_gap : (rs : List JobRow) (k : ℕ) → ((i : ℕ) (d : JobRow) → i < length rs → (get_or rs i d).job.id < k) → IsJobGap rs k (length rs)
end_gap rs k below = record {
  in_range = omega arith;
  before = λ i d lt. sym (nat_cmp_is (get_or rs i d).job.id k Less (below i d lt));
  behind = λ i d le lt. absurd (omega arith);
}

pub each_below : (rs : List JobRow) (k : ℕ) → ((i : ℕ) (d : JobRow) → i < length rs → (get_or rs i d).job.id < k) → All (λ n. n < k) (numbers_of rs)
each_below [] k below i d lt = absurd (omega arith)
each_below (r ∷ rs) k below zero d lt = below 0 r (omega arith)
each_below (r ∷ rs) k below (suc i) d lt = each_below rs k (λ j e l. below (suc j) e (omega arith)) i d (omega arith)

other_there : (j k : ℕ) → (j == k) ≡ false → is_eq (nat_cmp k j) ≡ false
other_there j k other = either (is_eq (nat_cmp k j)) refl
  where
    equal : k ≡ j → ⊥
    equal same = grind (arith, rules)

    either : (b : Bool) → is_eq (nat_cmp k j) ≡ b → b ≡ false
    either true e = absurd (equal (same_number j k e))
    either false e = refl

same_yes : (j k : ℕ) → j ≡ k → (j == k) ≡ true
same_yes j k same = grind (arith, rules)

lower_no : (j k : ℕ) → nat_cmp j k ≡ Less → (j == k) ≡ false
lower_no j k less = let lt : j < k = ranked j k Less (sym less) in grind (arith, rules)

found_numbered : (rs : List JobRow) (j : ℕ) (r : Job) → finite.find nat_cmp j (map job_entry rs) ≡ Some r → HasNumber (numbers_of rs) j
found_numbered [] j r there = absurd (cc)
found_numbered (x ∷ rs) j r there = either (x.job.id == j) refl (λ later. found_numbered rs j r later)
  where
    either : (b : Bool) → (x.job.id == j) ≡ b → (finite.find nat_cmp j (map job_entry rs) ≡ Some r → HasNumber (numbers_of rs) j) → cond b 0 (suc (position_in (numbers_of rs) j)) < suc (length (numbers_of rs))
    either true here later = omega arith
    either false other later =
        let rest = later (ap (λ b. cond b (Some (job_of x)) (finite.find nat_cmp j (map job_entry rs))) (sym (other_there x.job.id j other)) ∙ there) in
        omega (arith, rest)

module _ (rows : Listed) (own : rows.numbers ≡ numbers_of rows.items) (sorted : IsTrue (finite.is_sorted nat_cmp (map job_entry rows.items))) where
  pub as_many : length rows.numbers ≡ length rows.items
  as_many = ap length own ∙ length-map rows.items (λ (r : JobRow). r.job.id)

  -- An existing job has its number.
  pub has_number : (j : ℕ) (r : Job) → finite.get (jobs_of rows.items) j ≡ Some r → HasNumber rows.numbers j
  has_number j r there = subst (λ ns. HasNumber ns j) (sym own) (found_numbered rows.items j r (find_job rows.items sorted j ∙ there))

  pub needs_number : (j : ℕ) → IsSome (finite.get (jobs_of rows.items) j) → HasNumber rows.numbers j
  needs_number j there = either (finite.get (jobs_of rows.items) j) refl there
    where
      either : (o : Option Job) → finite.get (jobs_of rows.items) j ≡ o → IsSome o → HasNumber rows.numbers j
      either None is some = absurd (cc)
      either (Some r) is some = has_number j r is

  number_at : (at : ℕ) (d : JobRow) → at < length rows.items → get_or rows.numbers at 0 ≡ (get_or rows.items at d).job.id
  number_at at d lt = ap (λ ns. get_or ns at 0) own ∙ get_or-map (λ (r : JobRow). r.job.id) rows.items at d 0 lt

  -- The row that was found is at the position of its number.
  pub row_place : (j : ℕ) (row : JobRow) → HasRow rows j row → IsJobPlace rows.items j (position_in rows.numbers j)
  row_place j row found =
      let within : position_in rows.numbers j < length rows.items = subst (λ n. position_in rows.numbers j < n) as_many found.place.in_range in
      record {
        in_range = within;
        same = λ d. ap (λ n. nat_cmp n j) (sym (number_at (position_in rows.numbers j) d within)) ∙ found.place.same 0;
      }

  pub row_there : (j : ℕ) (row : JobRow) → HasRow rows j row → finite.get (jobs_of rows.items) j ≡ Some (job_of row)
  row_there j row found = get_job rows.items sorted j (position_in rows.numbers j) row (row_place j row found) ∙ ap (λ r. Some (job_of r)) found.is

  -- If the number is missing, there is no job.
  pub no_row : (j : ℕ) → LacksNumber rows.numbers j → finite.get (jobs_of rows.items) j ≡ None
  no_row j lacks = get_no_job rows.items sorted j lacks.0 (record {
    in_range = subst (λ n. lacks.0 ≤ n) as_many lacks.1.in_range;
    before = λ i d lt. ap (λ n. nat_cmp n j) (sym (number_at i d (omega (arith, lt, lacks.1.in_range, as_many)))) ∙ lacks.1.before i 0 lt;
    behind = λ i d le lt. ap (λ n. nat_cmp n j) (sym (number_at i d lt)) ∙ lacks.1.behind i 0 le (omega (arith, lt, as_many));
  })

  -- The result of a lookup under the number.
  pub looked_at : (j : ℕ) (o : Option (Bor JobRow)) → IfSome o (λ row. HasRow rows j row.now) → IfNone o (LacksNumber rows.numbers j) → option_map job_of (option_copied o) ≡ finite.get (jobs_of rows.items) j
  looked_at j None found lacks = sym (no_row j lacks)
  looked_at j (Some row) found lacks = sym (row_there j row.now found)

-- ## From one number to the next

-- The greatest number of iterations left, from this number on.
abbrev pub numbers_left : Option ℕ → ℕ
numbers_left None = 0
numbers_left (Some n) = greatest_number + 2 - n

place_is : (rs : List JobRow) → IsTrue (finite.is_sorted nat_cmp (map job_entry rs)) → (at n : ℕ) → slice_get (numbers_of rs) at ≡ Some n → position_in (numbers_of rs) n ≡ at
place_is [] sorted at n is = absurd (cc)
place_is (r ∷ rs) sorted zero n is = ap (λ b. cond b 0 (suc (position_in (numbers_of rs) n))) (let same : r.job.id ≡ n = cc in same_yes r.job.id n same)
place_is (r ∷ rs) sorted (suc at) n is =
    let within : at < length rs = subst (λ k. at < k) (length-map rs (λ (x : JobRow). x.job.id)) (slice_get_within (numbers_of rs) at n is) in
    let own : (get_or rs at r).job.id ≡ n = sym (get_or-map (λ (x : JobRow). x.job.id) rs at r 0 within) ∙ get_or_from_slice_get (numbers_of rs) at n 0 is in
    let less = rise nat_cmp nat_cmp_total (λ (x : JobRow). x.job.id) job_of (r ∷ rs) (t_from _ sorted) 0 (suc at) r (omega arith) (omega arith) in
    ap (λ b. cond b 0 (suc (position_in (numbers_of rs) n))) (lower_no r.job.id n (subst (λ k. nat_cmp r.job.id k ≡ Less) own less))
    ∙ ap suc (place_is rs (true_from _ (second_of _ _ (t_from _ sorted))) at n is)

-- The position of the current number.
pub place_reached : (rows : Listed) → rows.numbers ≡ numbers_of rows.items → IsTrue (finite.is_sorted nat_cmp (map job_entry rows.items)) → (at n : ℕ) → slice_get rows.numbers at ≡ Some n → position_in rows.numbers n ≡ at
place_reached rows own sorted at n is = ap (λ ns. position_in ns n) own ∙ place_is rows.items sorted at n (ap (λ ns. slice_get ns at) (sym own) ∙ is)

-- The rows during the loop: they have the numbers of the original rows, and some of them have been replaced.
module _ (first : Listed) (own : first.numbers ≡ numbers_of first.items) (sorted : IsTrue (finite.is_sorted nat_cmp (map job_entry first.items))) where
  pub within_reach : (at n : ℕ) → slice_get first.numbers at ≡ Some n → HasNumber first.numbers n
  within_reach at n is = subst (λ p. p < length first.numbers) (sym (place_reached first own sorted at n is)) (slice_get_within first.numbers at n is)

  pub record IsReached (rows : Listed) (at n : ℕ) (row : JobRow) : Type 0 where
    pub place : position_in rows.numbers n ≡ at
    pub within : at < length first.items
    pub is : get_or rows.items at row ≡ row

  pub reached_row : (rows : Listed) → rows ≡ record first { items = rows.items } → (at n : ℕ) → slice_get first.numbers at ≡ Some n → (row : JobRow) → HasRow rows n row → IsReached rows at n row
  reached_row rows same at n is row found =
      let place : position_in rows.numbers n ≡ at = ap (λ (r : Listed). position_in r.numbers n) same ∙ place_reached first own sorted at n is in
      record {
        place = place;
        within = subst (λ k. at < k) (as_many first own sorted) (slice_get_within first.numbers at n is);
        is = ap (λ p. get_or rows.items p row) (sym place) ∙ found.is;
      }

-- If no number is left, all positions were visited.
pub none_reached : (ns : List ℕ) (at : ℕ) → slice_get ns at ≡ None → length ns ≤ at
none_reached [] at none = omega arith
none_reached (n ∷ ns) zero none = absurd (cc)
none_reached (n ∷ ns) (suc at) none = let rest = none_reached ns at none in omega (arith, rest)
