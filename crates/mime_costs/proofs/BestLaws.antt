-- The first walk of the least cost, which no walk beats.
use Rattle.std.proofs.Common.{◌≡◌, ℕ, suc, zero, ◌+◌, ◌-◌, ◌<◌, ◌≤◌, Bool, true, false, ◌&&◌, cond, List, [], ◌∷◌, length, get_or, map, eqb, ltb, refl, ap, sym, ◌∙◌, arith, subst, Option, None, Some, ◌⊎◌, inl, inr, eq-eqb}
use Rattle.std.proofs.lemmas.Bool.{both_ways, cases_eq, false_from_ne_true, eqb-true, false≢true, le-ltb, ne_eqb, or_from, and_left, and_right}
use Rattle.std.proofs.lemmas.List.{length-map}
use Rattle.std.specs.List.{Contains, find}
use Rattle.mime_costs.specs.Conversions.{same, matches}
use Rattle.mime_costs.specs.SourceIndex.{sources_of, positions_in, Ascends}
use Rattle.mime_costs.specs.Costs.{plus, is_at, least, best, begins, is_taken}
use Rattle.mime_costs.specs.Walks.{Leads, cost_of, line_of, is_before, beats, Worth, worth_of, IsReached, IsLeast, IsApart}
use Rattle.mime_costs.specs.declared.conversion.Conversion.{Conversion}
use Rattle.mime_costs.proofs.PlaceLaws.{same-eq, taken_matches}
use Rattle.mime_costs.proofs.LeastLaws.{AtMost, least_of_one, least_of_most, least_most}

-- ## The first conversion of a file that passes

-- The line numbers of an ascending file are at least the first.
pub rises : (n : ℕ) (file : List Conversion) (c : Conversion) → Ascends n file → Contains file c → n ≤ c.line
rises n [] c h (k, less, is) = absurd (omega arith)
rises n (x ∷ file) c h (zero, less, is) = subst (λ y. n ≤ y.line) is h.0
rises n (x ∷ file) c h (suc k, less, is) = let l : suc x.line ≤ c.line = rises (suc x.line) file c h.1 (k, omega arith, is) in let m : n ≤ x.line = h.0 in omega arith

-- The conversion that is found precedes all others that pass.
pub found_first : (p : Conversion → Bool) (n : ℕ) (file : List Conversion) (c v : Conversion) → Ascends n file → find p file ≡ Some c → Contains file v → p v ≡ true → (c ≡ v) ⊎ (c.line < v.line)
found_first p n [] c v h e there passes = absurd (cc)
found_first p n (x ∷ file) c v h e (k, less, is) passes =
    (elim (p x) as (λ b. p x ≡ b → cond b (Some x) (find p file) ≡ Some c → (c ≡ v) ⊎ (c.line < v.line)) [
      | true ↦ λ t e. first k less is (let s : x ≡ c = cc in s)
      | false ↦ λ f e. later (λ t. found_first p (suc x.line) file c v h.1 e t passes) k less is f
    ]) refl e
  where
    first : (k : ℕ) → k < suc (length file) → get_or (x ∷ file) k v ≡ v → x ≡ c → (c ≡ v) ⊎ (c.line < v.line)
    first zero less is same = inl (sym same ∙ is)
    first (suc k) less is same =
        let l : suc x.line ≤ v.line = rises (suc x.line) file v h.1 (k, omega arith, is) in
        inr (subst (λ y. y.line < v.line) same (omega arith))

    later : (Contains file v → (c ≡ v) ⊎ (c.line < v.line)) → (k : ℕ) → k < suc (length file) → get_or (x ∷ file) k v ≡ v → p x ≡ false → (c ≡ v) ⊎ (c.line < v.line)
    later rest zero less is f = absurd (both_ways (p v) (ap p (sym is) ∙ f) passes)
    later rest (suc k) less is f = rest (k, omega arith, is)

-- A conversion is found if one passes.
pub found_some : (p : Conversion → Bool) (file : List Conversion) (v : Conversion) → Contains file v → p v ≡ true → (c : Conversion) × (find p file ≡ Some c) × Contains file c × (p c ≡ true)
found_some p [] v (k, less, is) passes = absurd (omega arith)
found_some p (x ∷ file) v (k, less, is) passes =
    (elim (p x) as (λ b. p x ≡ b → (c : Conversion) × (cond b (Some x) (find p file) ≡ Some c) × Contains (x ∷ file) c × (p c ≡ true)) [
      | true ↦ λ t. (x, refl, (zero, omega arith, refl), t)
      | false ↦ λ f. further (found_some p file v (behind k less is f) passes)
    ]) refl
  where
    behind : (k : ℕ) → k < suc (length file) → get_or (x ∷ file) k v ≡ v → p x ≡ false → Contains file v
    behind zero less is f = absurd (both_ways (p v) (ap p (sym is) ∙ f) passes)
    behind (suc k) less is f = (k, omega arith, is)

    further : (c : Conversion) × (find p file ≡ Some c) × Contains file c × (p c ≡ true) → (c : Conversion) × (find p file ≡ Some c) × Contains (x ∷ file) c × (p c ≡ true)
    further (c, e, (k, less, is), t) = (c, e, (suc k, omega arith, is), t)

-- ## The first walk of a cost

is_at-some : (cost : Option ℕ) (m : ℕ) → is_at cost m ≡ true → cost ≡ Some m
is_at-some None m h = absurd (false≢true h)
is_at-some (Some n) m h = ap Some (eqb-true n m h)

some-is_at : (cost : Option ℕ) (m : ℕ) → cost ≡ Some m → is_at cost m ≡ true
some-is_at cost m h = ap (λ v. is_at v m) h ∙ eq-eqb m m refl

-- A conversion that is taken, at a cost.
pub taken_at : (v : Bool) (cost : Option ℕ) (m : ℕ) → is_at (cond v cost None) m ≡ true → (v ≡ true) × (cost ≡ Some m)
taken_at true cost m h = (refl, is_at-some cost m h)
taken_at false cost m h = absurd (false≢true h)

at_taken : (v : Bool) (cost : Option ℕ) (m : ℕ) → v ≡ true → cost ≡ Some m → is_at (cond v cost None) m ≡ true
at_taken v cost m t is = ap (λ w. is_at (cond w cost None) m) t ∙ some-is_at cost m is

-- The rest of a cost after a conversion.
pub rest_cost : (c m : ℕ) (rest : Option ℕ) → plus c rest ≡ Some m → (rest ≡ Some (m - c)) × (c ≤ m)
rest_cost c m None h = absurd (cc)
rest_cost c m (Some n) h = let e : c + n ≡ m = cc in (ap Some (let f : n ≡ m - c = omega arith in f), omega arith)

-- The beginning of a walk of one more line.
record Begun (file : List Conversion) (to : List ℕ) (k m : ℕ) (media : List ℕ) (c : Conversion) : Type 0 where
  found : find (begins file to k m (positions_in (sources_of file) media)) file ≡ Some c
  there : Contains file c
  takes : matches c.source media ≡ true
  behind : least file to k c.destination ≡ Some (m - c.cost)
  less : c.cost ≤ m

begun : (file : List Conversion) (to : List ℕ) (k m : ℕ) (media : List ℕ) → least file to (suc k) media ≡ Some m → (c : Conversion) × Begun file to k m media c
unfolding least
begun file to k m media h = from (least_of_one (λ c. matches c.source media) (λ c. plus c.cost (least file to k c.destination)) file m h)
  where
    test : Conversion → Bool
    test = begins file to k m (positions_in (sources_of file) media)

    made : (c : Conversion) × (find test file ≡ Some c) × Contains file c × (test c ≡ true) → (c : Conversion) × Begun file to k m media c
    made (c, e, there, t) =
        let parts = taken_at (is_taken file (positions_in (sources_of file) media) c) (plus c.cost (least file to k c.destination)) m t in
        let left = rest_cost c.cost m (least file to k c.destination) parts.1 in
        (c, record { found = e; there = there; takes = sym (taken_matches file media c there) ∙ parts.0; behind = left.0; less = left.1 })

    from : (c : Conversion) × Contains file c × (matches c.source media ≡ true) × (plus c.cost (least file to k c.destination) ≡ Some m) → (c : Conversion) × Begun file to k m media c
    from (c, there, takes, is) = made (found_some test file c there (at_taken (is_taken file (positions_in (sources_of file) media) c) _ m (taken_matches file media c there ∙ takes) is))

-- The first walk has that cost.
pub record IsOf (file : List Conversion) (to : List ℕ) (k m : ℕ) (media : List ℕ) (walk : List Conversion) : Type 0 where
  pub leads : Leads file media walk to
  pub count : length walk ≡ k
  pub cost : cost_of walk ≡ m

pub best_is : (file : List Conversion) (to : List ℕ) (k m : ℕ) (media : List ℕ) → least file to k media ≡ Some m → IsOf file to k m media (best file to k m (positions_in (sources_of file) media))
unfolding least best
best_is file to zero m media h = here (same media to) refl h
  where
    here : (v : Bool) → same media to ≡ v → cond v (Some 0) None ≡ Some m → IsOf file to zero m media []
    here true e h = record { leads = same-eq media to e; count = refl; cost = let s : 0 ≡ m = cc in s }
    here false e h = absurd (cc)
best_is file to (suc k) m media h = step (λ c e. best_is file to k (m - c.cost) c.destination e) (begun file to k m media h)
  where
    step : ((c : Conversion) → least file to k c.destination ≡ Some (m - c.cost) → IsOf file to k (m - c.cost) c.destination (best file to k (m - c.cost) (positions_in (sources_of file) c.destination)))
        → (c : Conversion) × Begun file to k m media c → IsOf file to (suc k) m media (best file to (suc k) m (positions_in (sources_of file) media))
    step below (c, b) =
        let rest = below c b.behind in
        subst (λ o. IsOf file to (suc k) m media (elim o [ None ↦ [] | Some c ↦ c ∷ best file to k (m - c.cost) (positions_in (sources_of file) c.destination) ])) (sym b.found)
        (record { leads = (b.there, b.takes, rest.leads); count = ap suc rest.count; cost = (let e : cost_of (best file to k (m - c.cost) (positions_in (sources_of file) c.destination)) ≡ m - c.cost = rest.cost in let l : c.cost ≤ m = b.less in omega arith) })

-- No walk of that cost and length has smaller line numbers.
pub best_first : (file : List Conversion) (n : ℕ) → Ascends n file → (to : List ℕ) (k m : ℕ) (media : List ℕ) → least file to k media ≡ Some m → (walk : List Conversion) → Leads file media walk to → length walk ≡ k → cost_of walk ≡ m
    → is_before (map line_of walk) (map line_of (best file to k m (positions_in (sources_of file) media))) ≡ false
unfolding least best
best_first file n rising to zero m media h walk leads count cost = refl
best_first file n rising to (suc k) m media h [] leads count cost = absurd (omega arith)
best_first file n rising to (suc k) m media h (v ∷ walk) (there, takes, leads) count cost =
    step (λ e. best_first file n rising to k (m - v.cost) v.destination e walk leads (omega arith) (omega arith)) (begun file to k m media h)
  where
    test : Conversion → Bool
    test = begins file to k m (positions_in (sources_of file) media)

    lines_from : Conversion → List ℕ
    lines_from y = y.line ∷ map line_of (best file to k (m - y.cost) (positions_in (sources_of file) y.destination))

    -- The rest of the walk is a cheapest one. Otherwise the walk would cost more.
    exact : (rest : Option ℕ) → AtMost rest (cost_of walk) → ((l : ℕ) → rest ≡ Some l → m ≤ v.cost + l) → plus v.cost rest ≡ Some m
    exact rest (l, is, le) no_less = let below = no_less l is in let e : v.cost + l ≡ m = omega arith in ap (plus v.cost) is ∙ ap Some e

    no_less : (l : ℕ) → least file to k v.destination ≡ Some l → m ≤ v.cost + l
    no_less l e = under (least_of_most (λ c. matches c.source media) (λ c. plus c.cost (least file to k c.destination)) file v (v.cost + l) there takes (v.cost + l, ap (plus v.cost) e, omega arith))
      where
        under : AtMost (least file to (suc k) media) (v.cost + l) → m ≤ v.cost + l
        under (o, e, le) = let s : m ≡ o = cc in omega arith

    passes : test v ≡ true
    passes =
        let most : AtMost (least file to k v.destination) (cost_of walk) = subst (λ j. AtMost (least file to j v.destination) (cost_of walk)) (let e : length walk ≡ k = omega arith in e) (least_most file to v.destination walk leads) in
        at_taken (is_taken file (positions_in (sources_of file) media) v) _ m (taken_matches file media v there ∙ takes) (exact (least file to k v.destination) most no_less)

    tie : (i : ℕ) (xs ys : List ℕ) → is_before xs ys ≡ false → is_before (i ∷ xs) (i ∷ ys) ≡ false
    tie i xs ys h = or_from (ltb i i) (eqb i i && is_before xs ys) (le-ltb i i (omega arith)) (and_right (eqb i i) (is_before xs ys) h)

    above : (i j : ℕ) (xs ys : List ℕ) → i < j → is_before (j ∷ xs) (i ∷ ys) ≡ false
    above i j xs ys h = or_from (ltb j i) (eqb j i && is_before xs ys) (le-ltb j i (omega arith)) (and_left (eqb j i) (is_before xs ys) (ne_eqb j i (λ e. omega arith)))

    meets : (least file to k v.destination ≡ Some (m - v.cost) → is_before (map line_of walk) (map line_of (best file to k (m - v.cost) (positions_in (sources_of file) v.destination))) ≡ false)
        → (c : Conversion) → Begun file to k m media c → (c ≡ v) ⊎ (c.line < v.line) → is_before (v.line ∷ map line_of walk) (lines_from c) ≡ false
    meets below c b (inl e) =
        subst (λ y. is_before (v.line ∷ map line_of walk) (lines_from y) ≡ false) (sym e)
        (tie v.line (map line_of walk) (map line_of (best file to k (m - v.cost) (positions_in (sources_of file) v.destination))) (below (subst (λ y. least file to k y.destination ≡ Some (m - y.cost)) e b.behind)))
    meets below c b (inr less) = above c.line v.line (map line_of walk) (map line_of (best file to k (m - c.cost) (positions_in (sources_of file) c.destination))) less

    step : (least file to k v.destination ≡ Some (m - v.cost) → is_before (map line_of walk) (map line_of (best file to k (m - v.cost) (positions_in (sources_of file) v.destination))) ≡ false)
        → (c : Conversion) × Begun file to k m media c → is_before (v.line ∷ map line_of walk) (map line_of (best file to (suc k) m (positions_in (sources_of file) media))) ≡ false
    step below (c, b) =
        subst (λ o. is_before (v.line ∷ map line_of walk) (map line_of (elim o [ None ↦ [] | Some c ↦ c ∷ best file to k (m - c.cost) (positions_in (sources_of file) c.destination) ])) ≡ false) (sym b.found)
        (meets below c b (found_first test n file c v rising b.found there passes))

-- ## The chain

-- A worth that is not worse is not beaten.
pub not_better : (a b : Worth) → b.cost ≤ a.cost → (a.cost ≡ b.cost → length b.lines ≤ length a.lines) → (a.cost ≡ b.cost → length a.lines ≡ length b.lines → is_before a.lines b.lines ≡ false) → beats a b ≡ false
not_better a b le few first =
    or_from (ltb a.cost b.cost) _ (le-ltb a.cost b.cost le)
    (elim (cases_eq a.cost b.cost) [
      | inl e ↦ and_right (eqb a.cost b.cost) _ (or_from (ltb (length a.lines) (length b.lines)) _ (le-ltb (length a.lines) (length b.lines) (few e))
          (elim (cases_eq (length a.lines) (length b.lines)) [
            | inl l ↦ and_right (eqb (length a.lines) (length b.lines)) (is_before a.lines b.lines) (first e l)
            | inr n ↦ and_left (eqb (length a.lines) (length b.lines)) (is_before a.lines b.lines) (ne_eqb (length a.lines) (length b.lines) n)
          ]))
      | inr n ↦ and_left (eqb a.cost b.cost) _ (ne_eqb a.cost b.cost n)
    ])

-- A size whose first walk no walk beats.
pub record IsBest (file : List Conversion) (from to : List ℕ) (k m : ℕ) : Type 0 where
  pub short : k ≤ 15
  pub there : least file to k from ≡ Some m
  pub least_cost : (j n : ℕ) → j ≤ 15 → least file to j from ≡ Some n → (m < n) ⊎ ((m ≡ n) × (k ≤ j))

module _ (file : List Conversion) (from to : List ℕ) (k m : ℕ) (b : IsBest file from to k m) where
  pub reached : IsReached file from to (record { cost = m; lines = map line_of (best file to k m (positions_in (sources_of file) from)) })
  reached =
      let walk = best file to k m (positions_in (sources_of file) from) in
      let is = best_is file to k m from b.there in
      (walk, record { leads = is.leads; short = (let e : length walk ≡ k = is.count in let s : k ≤ 15 = b.short in omega arith) }, ap (λ c. record { cost = c; lines = map line_of walk }) is.cost)

  pub none_beats : Ascends 1 file → IsLeast file from to (record { cost = m; lines = map line_of (best file to k m (positions_in (sources_of file) from)) })
  none_beats rising walk is = compare (least_most file to from walk is.leads)
    where
      chosen : List Conversion
      chosen = best file to k m (positions_in (sources_of file) from)

      count : length (map line_of chosen) ≡ k
      count = length-map chosen line_of ∙ (best_is file to k m from b.there).count

      judge : (n : ℕ) → n ≤ cost_of walk → (m < n) ⊎ ((m ≡ n) × (k ≤ length walk)) → beats (worth_of walk) (record { cost = m; lines = map line_of chosen }) ≡ false
      judge n le (inl less) = not_better (worth_of walk) (record { cost = m; lines = map line_of chosen }) (omega arith) (λ e. absurd (omega arith)) (λ e l. absurd (omega arith))
      judge n le (inr (same, few)) =
          not_better (worth_of walk) (record { cost = m; lines = map line_of chosen }) (omega arith)
          (λ e. let l = length-map walk line_of in let c = count in omega (arith, l, c))
          (λ e l. best_first file 1 rising to k m from b.there walk is.leads (sym (length-map walk line_of) ∙ l ∙ count) e)

      compare : AtMost (least file to (length walk) from) (cost_of walk) → beats (worth_of walk) (record { cost = m; lines = map line_of chosen }) ≡ false
      compare (n, e, le) = judge n le (b.least_cost (length walk) n is.short e)

pub apart : (file : List Conversion) (from to : List ℕ) → ((j : ℕ) → j ≤ 15 → least file to j from ≡ None) → IsApart file from to
apart file from to none walk is = no (least_most file to from walk is.leads)
  where
    no : AtMost (least file to (length walk) from) (cost_of walk) → ⊥
    no (m, e, le) = let n : least file to (length walk) from ≡ None = none (length walk) is.short in cc

-- A walk of no lines begins and ends at the same type.
pub none_empty : (file : List Conversion) (from to : List ℕ) → (from ≡ to → ⊥) → least file to zero from ≡ None
unfolding least
none_empty file from to other = ap (λ v. cond v (Some 0) None) (false_from_ne_true (same from to) (λ h. other (same-eq from to h)))
