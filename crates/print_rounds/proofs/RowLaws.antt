-- Each row of a legal table is found by its number.
use Rattle.std.proofs.Common.{◌≡◌, ℕ, zero, suc, ◌<◌, Bool, true, false, cond, List, [], ◌∷◌, length, get_or, map, Some, None, IsTrue, refl, sym, ap, subst, ◌∙◌, arith}
use Rattle.std.specs.Prelude.{T}
use Rattle.std.specs.Cmp.{nat_cmp_total, eq_by_cmp_equiv, first_so, second_so}
use Rattle.std.specs.FinMap as finite
use Rattle.std.specs.FinMap.Entries.{below_all}
use Rattle.std.specs.List.{Contains}
use Rattle.std.specs.Ordering.{nat_cmp, eq_by_cmp, is_lt, is_eq}
use Rattle.std.specs.declared.cmp.Ordering.{Ordering}
use Rattle.std.specs.declared.cmp.Ordering.TheVariants.{Less, Equal, Greater}
use Rattle.std.proofs.lemmas.List.{length-map}
use Rattle.spool_types.specs.State.{State, Job, job_at}
use Rattle.job_table.specs.Legal.{IsLegal}

not_tied : (o : Ordering) → IsTrue (is_lt o) → is_eq o ≡ false
not_tied Less below = refl
not_tied Equal below = absurd (cc)
not_tied Greater below = absurd (cc)

-- A key below all others is not among them.
none_found : (k : ℕ) (es : List (ℕ × Job)) → IsTrue (below_all nat_cmp k es) → finite.find nat_cmp k es ≡ None
none_found k [] below = refl
none_found k (e ∷ es) below =
    ap (λ b. cond b (Some e.1) (finite.find nat_cmp k es)) (not_tied (nat_cmp k e.0) (first_so (is_lt (nat_cmp k e.0)) (below_all nat_cmp k es) below))
    ∙ none_found k es (second_so (is_lt (nat_cmp k e.0)) (below_all nat_cmp k es) below)

-- A value is found at its key.
value_found : (es : List (ℕ × Job)) → IsTrue (finite.is_sorted nat_cmp es) → (r : Job) (i : ℕ) → i < length es → get_or (map (λ e. e.1) es) i r ≡ r → (k : ℕ) × (finite.find nat_cmp k es ≡ Some r)
value_found [] sorted r i lt is = absurd (omega (arith, lt))
value_found (e ∷ es) sorted r zero lt is = (e.0, ap (λ b. cond b (Some e.1) (finite.find nat_cmp e.0 es)) ((eq_by_cmp_equiv nat_cmp_total).refl e.0) ∙ ap Some is)
value_found (e ∷ es) sorted r (suc i) lt is =
    let (k, found) = value_found es (second_so (below_all nat_cmp e.0 es) (finite.is_sorted nat_cmp es) sorted) r i (omega (arith, lt)) is in
    (k, by_tie k found (eq_by_cmp nat_cmp k e.0) refl)
  where
    by_tie : (k : ℕ) → finite.find nat_cmp k es ≡ Some r → (b : Bool) → eq_by_cmp nat_cmp k e.0 ≡ b → cond b (Some e.1) (finite.find nat_cmp k es) ≡ Some r
    by_tie k found false apart = found
    by_tie k found true tied =
        let same : k ≡ e.0 = finite.nat_cmp-IsAntisymmetric k e.0 (equal (nat_cmp k e.0) tied) in
        let none : finite.find nat_cmp k es ≡ None = ap (λ i. finite.find nat_cmp i es) same ∙ none_found e.0 es (first_so (below_all nat_cmp e.0 es) (finite.is_sorted nat_cmp es) sorted) in
        absurd (cc)
      where
        equal : (o : Ordering) → is_eq o ≡ true → o ≡ Equal
        equal Less is = absurd (cc)
        equal Equal is = refl
        equal Greater is = absurd (cc)

module _ (s : State) (legal : IsLegal s) where
  true_from : (b : Bool) → T b → IsTrue b
  true_from true h = refl
  true_from false h = absurd h

  -- Each row of a legal table is found by its number.
  pub legal_rows : (r : Job) → Contains (finite.values s.jobs) r → job_at s r.id ≡ Some r
  legal_rows r (i, lt, is) =
      let es = finite.entries s.jobs in
      let (k, found) = value_found es (true_from _ (finite.entries_sorted s.jobs)) r i (omega (arith, lt, length-map es (λ (e : ℕ × Job). e.1))) is in
      let there : job_at s k ≡ Some r = finite.get-entries s.jobs k ∙ found in
      subst (λ j. job_at s j ≡ Some r) (sym (legal.jobs k r there).id) there
