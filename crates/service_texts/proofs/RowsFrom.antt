-- The jobs from a number on, among rows in ascending order of number.
use Rattle.std.proofs.Common.{◌≡◌, ℕ, suc, ◌+◌, ◌<◌, ◌≤◌, Bool, true, false, cond, List, [], ◌∷◌, map, Option, None, Some, refl, sym, ap, subst, ◌∙◌, arith}
use Rattle.std.specs.Prelude.{T, ◌&&◌, nat_lt}
use Rattle.std.specs.declared.cmp.Ordering.{Ordering}
use Rattle.std.specs.declared.cmp.Ordering.TheVariants.{Less, Equal, Greater}
use Rattle.std.specs.FinMap as finite
use Rattle.std.specs.FinMap.Entries.{is_sorted, below_all}
use Rattle.std.specs.List.{AllByRecursion, Contains}
use Rattle.std.specs.List.Sorted.{IsStrictlySortedBy}
use Rattle.std.specs.Ordering.{nat_cmp, is_lt}
use Rattle.std.proofs.lemmas.Cmp.{ranked}
use Rattle.std.proofs.lemmas.Bool.{le-leb, lt-leb, ltb-true, ltb-false}
use Rattle.job_rows.specs.NumberedRows.{first_above}
use Rattle.spool_types.specs.State.{State, Job}
use Rattle.service_texts.specs.Listings.{following, jobs_from}

abbrev pub number_of : Job → ℕ
number_of r = r.id

abbrev pub IsRising : List Job → Type 0
IsRising rows = IsStrictlySortedBy nat_cmp (map number_of rows)

abbrev pub AllAbove : ℕ → List Job → Type 0
AllAbove k rows = AllByRecursion (λ n. nat_cmp k n ≡ Less) (map number_of rows)

pub is_less : (x y : ℕ) → nat_cmp x y ≡ Less → x < y
is_less x y e = ranked x y Less (sym e)

-- All rows are kept if each has the number or a greater one.
pub keeps_all : (n k : ℕ) (rows : List Job) → n ≤ k + 1 → AllAbove k rows → jobs_from n rows ≡ rows
keeps_all n k [] le above = refl
keeps_all n k (r ∷ rs) le above =
    let lt : k < r.id = is_less k r.id above.0 in
    ap (λ b. cond b (r ∷ jobs_from n rs) (jobs_from n rs)) (le-leb n r.id (omega arith))
    ∙ ap (λ (qs : List Job). r ∷ qs) (keeps_all n k rs le above.1)

-- This job is the first one with the number or a greater one.
pub record IsFirst (n : ℕ) (rows : List Job) (id : ℕ) : Type 0 where
  pub row : Job
  pub number : row.id ≡ id
  pub there : Contains rows row
  pub above : n ≤ id
  pub first : jobs_from n rows ≡ row ∷ jobs_from (id + 1) rows
  pub here : jobs_from id rows ≡ row ∷ jobs_from (id + 1) rows

abbrev pub IsNext : ℕ → List Job → Option ℕ → Type 0
IsNext n rows None = jobs_from n rows ≡ []
IsNext n rows (Some id) = IsFirst n rows id

first_here : (n : ℕ) (r : Job) (rs : List Job) → n ≤ r.id → AllAbove r.id rs → IsFirst n (r ∷ rs) r.id
first_here n r rs le above =
    let rest : jobs_from (r.id + 1) (r ∷ rs) ≡ rs =
    ap (λ b. cond b (r ∷ jobs_from (r.id + 1) rs) (jobs_from (r.id + 1) rs)) (lt-leb (r.id + 1) r.id (omega arith)) ∙ keeps_all (r.id + 1) r.id rs (omega arith) above in
    let from : (m : ℕ) → m ≤ r.id → jobs_from m (r ∷ rs) ≡ r ∷ rs =
    λ m lower. ap (λ b. cond b (r ∷ jobs_from m rs) (jobs_from m rs)) (le-leb m r.id lower) ∙ ap (λ (qs : List Job). r ∷ qs) (keeps_all m r.id rs (omega (arith, lower)) above) in
    record {
      row = r;
      number = refl;
      there = (0, omega arith, refl);
      above = le;
      first = from n le ∙ ap (λ (qs : List Job). r ∷ qs) (sym rest);
      here = from r.id (omega arith) ∙ ap (λ (qs : List Job). r ∷ qs) (sym rest);
    }

first_later : (n : ℕ) (r : Job) (rs : List Job) (id : ℕ) → r.id < n → IsFirst n rs id → IsFirst n (r ∷ rs) id
first_later n r rs id lt f =
    let skips : (m : ℕ) → r.id < m → jobs_from m (r ∷ rs) ≡ jobs_from m rs =
    λ m lower. ap (λ b. cond b (r ∷ jobs_from m rs) (jobs_from m rs)) (lt-leb m r.id lower) in
    let le = f.above in
    let more = ap (λ (qs : List Job). f.row ∷ qs) (sym (skips (id + 1) (omega (arith, lt, le)))) in
    record {
      row = f.row;
      number = f.number;
      there = (suc f.there.0, omega (arith, f.there.1), f.there.2);
      above = le;
      first = skips n lt ∙ f.first ∙ more;
      here = skips id (omega (arith, lt, le)) ∙ f.here ∙ more;
    }

later : (n : ℕ) (r : Job) (rs : List Job) (o : Option ℕ) → r.id < n → IsNext n rs o → IsNext n (r ∷ rs) o
later n r rs None lt none = ap (λ b. cond b (r ∷ jobs_from n rs) (jobs_from n rs)) (lt-leb n r.id lt) ∙ none
later n r rs (Some id) lt f = first_later n r rs id lt f

-- The least number above another one is that of the first job from the number after it.
pub next_from : (n m : ℕ) (rows : List Job) → m ≡ n + 1 → IsRising rows → IsNext m rows (first_above n (map number_of rows))
unfolding IsStrictlySortedBy
next_from n m [] is up = refl
next_from n m (r ∷ rs) is up = by_test (nat_lt n r.id) refl (next_from n m rs is up.1)
  where
    by_test : (b : Bool) → nat_lt n r.id ≡ b → IsNext m rs (first_above n (map number_of rs)) → IsNext m (r ∷ rs) (cond b (Some r.id) (first_above n (map number_of rs)))
    by_test true lt rest = let above = ltb-true n r.id lt in first_here m r rs (omega (arith, is, above)) up.0
    by_test false lt rest = let below = ltb-false n r.id lt in later m r rs (first_above n (map number_of rs)) (omega (arith, is, below)) rest

-- The rows from the number on begin with the first of them.
pub follows : (n : ℕ) (rows : List Job) (o : Option ℕ) → IsNext n rows o → jobs_from n rows ≡ following o rows
follows n rows None none = none
follows n rows (Some id) f = f.first ∙ sym f.here

-- ## The rows of a table

both : (a b : Bool) → T (a && b) → T a × T b
both true b t = (tt, t)
both false b t = absurd t

less_from : (r : Ordering) → T (is_lt r) → r ≡ Less
less_from Less t = refl
less_from Equal t = absurd t
less_from Greater t = absurd t

keys_above : {X : Type 0} (k : ℕ) (es : List (ℕ × X)) → T (below_all nat_cmp k es) → AllByRecursion (λ n. nat_cmp k n ≡ Less) (map (λ e. e.0) es)
keys_above k [] t = tt
keys_above k (e ∷ es) t = let parts = both _ _ t in (less_from _ parts.0, keys_above k es parts.1)

keys_rise : {X : Type 0} (es : List (ℕ × X)) → T (is_sorted nat_cmp es) → IsStrictlySortedBy nat_cmp (map (λ e. e.0) es)
unfolding IsStrictlySortedBy
keys_rise [] t = tt
keys_rise (e ∷ es) t = let parts = both _ _ t in (keys_above e.0 es parts.0, keys_rise es parts.1)

-- The jobs of a table are in ascending order of number, if each has the number of its key.
pub rows_rise : (s : State) (numbers : List ℕ) → numbers ≡ finite.keys s.jobs → map number_of (finite.values s.jobs) ≡ numbers → IsRising (finite.values s.jobs)
rows_rise s numbers keys each = subst (λ (ns : List ℕ). IsStrictlySortedBy nat_cmp ns) (sym (each ∙ keys)) (keys_rise (finite.entries s.jobs) (finite.entries_sorted s.jobs))
