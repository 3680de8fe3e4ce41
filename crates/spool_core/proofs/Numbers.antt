-- The jobs of a legal table have distinct numbers.
use Rattle.std.proofs.Common.{◌≡◌, ◌≢◌, ℕ, zero, suc, drop, List, [], ◌∷◌, ◌++◌, Some, map, refl, sym, ap, ◌∙◌, append_assoc, subst}
use Rattle.std.specs.Prelude.{T}
use Rattle.std.specs.declared.cmp.Ordering.{Ordering}
use Rattle.std.specs.declared.cmp.Ordering.TheVariants.{Less, Equal}
use Rattle.std.specs.Ordering.{nat_cmp, is_lt}
use Rattle.std.specs.Cmp.{nat_cmp_total, tied_itself}
use Rattle.std.specs.FinMap as finite
use Rattle.std.specs.FinMap.Entries.{is_sorted, below_all}
use Rattle.std.specs.List.{AllByRecursion}
use Rattle.spool_types.specs.State.{State, Job, job_at}
use Rattle.job_table.specs.Legal.{IsLegal}
use Rattle.job_table.proofs.Above.{above_front, found_there}
use Rattle.job_table.proofs.Rows.{first_of, second_of, less_from}

-- No two of the jobs have the same number.
abbrev pub AreApart : List Job → Type 0
AreApart [] = Unit {0}
AreApart (r ∷ rs) = AllByRecursion (λ (q : Job). q.id ≢ r.id) rs × AreApart rs

-- Each job is found by its number.
abbrev pub AreFound : State → List Job → Type 0
AreFound s rs = AllByRecursion (λ (r : Job). job_at s r.id ≡ Some r) rs

not_both : (o : Ordering) → o ≡ Less → o ≡ Equal → ⊥
not_both o less equal = cc

less_apart : (j k : ℕ) → nat_cmp j k ≡ Less → k ≢ j
less_apart j k less same = not_both (nat_cmp j k) less (ap (nat_cmp j) same ∙ tied_itself nat_cmp_total j)

module _ (s : State) (legal : IsLegal s) where
  numbered : (front es : List (ℕ × Job)) → finite.entries s.jobs ≡ front ++ es → AllByRecursion (λ (e : ℕ × Job). (e.1.id ≡ e.0) × (job_at s e.1.id ≡ Some e.1)) es
  numbered front [] is = tt
  numbered front (e ∷ es) is =
      let sorted : T (is_sorted nat_cmp (front ++ e ∷ es)) = subst (λ (l : List (ℕ × Job)). T (is_sorted nat_cmp l)) is (finite.entries_sorted s.jobs) in
      let there : job_at s e.0 ≡ Some e.1 = finite.get-entries s.jobs e.0 ∙ ap (finite.find nat_cmp e.0) is ∙ found_there nat_cmp nat_cmp_total front e es (above_front nat_cmp nat_cmp_total front e es sorted) in
      let own = (legal.jobs e.0 e.1 there).id in
      ((own, ap (job_at s) own ∙ there), numbered (front ++ e ∷ []) es (is ∙ sym (append_assoc front (e ∷ []) es)))

  all_found : (es : List (ℕ × Job)) → AllByRecursion (λ (e : ℕ × Job). (e.1.id ≡ e.0) × (job_at s e.1.id ≡ Some e.1)) es → AreFound s (map (λ (e : ℕ × Job). e.1) es)
  all_found [] are = tt
  all_found (e ∷ es) are = (are.0.1, all_found es are.1)

  others_apart : (k : ℕ) (r : Job) (es : List (ℕ × Job)) → r.id ≡ k → T (below_all nat_cmp k es) → AllByRecursion (λ (e : ℕ × Job). (e.1.id ≡ e.0) × (job_at s e.1.id ≡ Some e.1)) es → AllByRecursion (λ (q : Job). q.id ≢ r.id) (map (λ (e : ℕ × Job). e.1) es)
  others_apart k r [] own below are = tt
  others_apart k r (e ∷ es) own below are = (
    λ same. less_apart k e.0 (less_from _ (first_of (is_lt (nat_cmp k e.0)) (below_all nat_cmp k es) below)) (sym are.0.0 ∙ same ∙ own),
    others_apart k r es own (second_of (is_lt (nat_cmp k e.0)) (below_all nat_cmp k es) below) are.1,
  )

  all_apart : (es : List (ℕ × Job)) → T (is_sorted nat_cmp es) → AllByRecursion (λ (e : ℕ × Job). (e.1.id ≡ e.0) × (job_at s e.1.id ≡ Some e.1)) es → AreApart (map (λ (e : ℕ × Job). e.1) es)
  all_apart [] sorted are = tt
  all_apart (e ∷ es) sorted are = (
    others_apart e.0 e.1 es are.0.0 (first_of (below_all nat_cmp e.0 es) (is_sorted nat_cmp es) sorted) are.1,
    all_apart es (second_of (below_all nat_cmp e.0 es) (is_sorted nat_cmp es) sorted) are.1,
  )

  pub jobs_found : AreFound s (finite.values s.jobs)
  jobs_found = all_found (finite.entries s.jobs) (numbered [] (finite.entries s.jobs) refl)

  pub jobs_apart : AreApart (finite.values s.jobs)
  jobs_apart = all_apart (finite.entries s.jobs) (finite.entries_sorted s.jobs) (numbered [] (finite.entries s.jobs) refl)

pub apart_behind : (i : ℕ) (rs : List Job) → AreApart rs → AreApart (drop i rs)
apart_behind zero rs apart = apart
apart_behind (suc i) [] apart = tt
apart_behind (suc i) (r ∷ rs) apart = apart_behind i rs apart.1

pub all_behind : {X : Type 0} (P : X → Type 0) (i : ℕ) (xs : List X) → AllByRecursion P xs → AllByRecursion P (drop i xs)
all_behind P zero xs all = all
all_behind P (suc i) [] all = tt
all_behind P (suc i) (x ∷ xs) all = all_behind P i xs all.1

-- A property of each element that follows from two others.
pub all_by : {X : Type 0} (P Q R : X → Type 0) (xs : List X) → ((x : X) → P x → Q x → R x) → AllByRecursion P xs → AllByRecursion Q xs → AllByRecursion R xs
all_by P Q R [] both one other = tt
all_by P Q R (x ∷ xs) both one other = (both x one.0 other.0, all_by P Q R xs both one.1 other.1)
