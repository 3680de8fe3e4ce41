-- Rows of costs, read conversion by conversion.
use Rattle.std.proofs.Common.{◌≡◌, ℕ, suc, zero, ◌+◌, ◌*◌, ◌<◌, ◌≤◌, Bool, true, false, ◌||◌, cond, List, [], ◌∷◌, length, get_or, take, set, map, refl, ap, sym, ◌∙◌, arith, subst, add-one, Option, None, Some, ◌⊎◌, inl, inr, eq-eqb}
use Rattle.std.proofs.lemmas.Bool.{both_ways, ne_eqb, cases_eq, cases_lt}
use Rattle.std.proofs.lemmas.List.{length-map, get_or-map, get_or-set_same, get_or-set_other, get_or_default}
use Rattle.std.specs.List.{All}
use Rattle.mime_costs.specs.SourceIndex.{sources_of, position_in, positions_in, takes, links_in, link_of, AreCheap}
use Rattle.mime_costs.specs.Costs.{lesser, plus, is_at, least, least_in, row_of, is_of_group, is_taken, cost_in_groups, next_cost, is_step, IsSmall}
use Rattle.mime_costs.specs.declared.conversion.Conversion.{Conversion}
use Rattle.mime_costs.specs.declared.links.Positions.{Positions}
use Rattle.mime_costs.specs.declared.links.Link.{Link}
use Rattle.mime_costs.proofs.PlaceLaws.{source_place}
use Rattle.mime_costs.proofs.LeastLaws.{lesser-none, lesser_assoc, lesser_comm, lesser_same, lesser_one, least_from, least_small}

-- ## One more conversion

least_in_step : (p : Conversion → Bool) (file : List Conversion) (row : List (Option ℕ)) (i : ℕ) (d : Conversion) → i < length file → i < length row
    → least_in p (take (suc i) file) (take (suc i) row) ≡ lesser (least_in p (take i file) (take i row)) (cond (p (get_or file i d)) (plus (get_or file i d).cost (get_or row i None)) None)
least_in_step p [] row i d less there = absurd (omega arith)
least_in_step p (x ∷ file) [] i d less there = absurd (omega arith)
least_in_step p (x ∷ file) (r ∷ row) zero d less there = lesser-none (cond (p x) (plus x.cost r) None)
least_in_step p (x ∷ file) (r ∷ row) (suc i) d less there =
    ap (lesser (cond (p x) (plus x.cost r) None)) (least_in_step p file row i d (omega arith) (omega arith))
    ∙ sym (lesser_assoc (cond (p x) (plus x.cost r) None) (least_in p (take i file) (take i row)) (cond (p (get_or file i d)) (plus (get_or file i d).cost (get_or row i None)) None))

module _ (p : Conversion → Bool) (file : List Conversion) (row : List (Option ℕ)) (i : ℕ) (d : Conversion) (less : i < length file) (there : i < length row) where
  pub least_in_taken : p (get_or file i d) ≡ true → least_in p (take (i + 1) file) (take (i + 1) row) ≡ lesser (least_in p (take i file) (take i row)) (plus (get_or file i d).cost (get_or row i None))
  least_in_taken passes =
      ap (λ n. least_in p (take n file) (take n row)) (add-one i) ∙ least_in_step p file row i d less there
      ∙ ap (λ v. lesser (least_in p (take i file) (take i row)) (cond v (plus (get_or file i d).cost (get_or row i None)) None)) passes

  pub least_in_left : p (get_or file i d) ≡ false → least_in p (take (i + 1) file) (take (i + 1) row) ≡ least_in p (take i file) (take i row)
  least_in_left fails =
      ap (λ n. least_in p (take n file) (take n row)) (add-one i) ∙ least_in_step p file row i d less there
      ∙ ap (λ v. lesser (least_in p (take i file) (take i row)) (cond v (plus (get_or file i d).cost (get_or row i None)) None)) fails
      ∙ lesser-none (least_in p (take i file) (take i row))

-- ## The groups

-- The groups so far.
abbrev pub AreGroups : List Conversion → List (Option ℕ) → List (Option ℕ) → ℕ → Type 0
AreGroups file row groups i = (g : ℕ) → get_or groups g None ≡ least_in (is_of_group file g) (take i file) (take i row)

pub groups_more : (file : List Conversion) (row groups : List (Option ℕ)) (i group : ℕ) (d : Conversion) → i < length file → i < length row → group ≡ position_in (sources_of file) (get_or file i d).source → group < length groups
    → AreGroups file row groups i → AreGroups file row (set groups group (lesser (get_or groups group None) (plus (get_or file i d).cost (get_or row i None)))) (i + 1)
groups_more file row groups i group d less there is inside so_far g = at (cases_eq g group)
  where
    worth : Option ℕ
    worth = lesser (get_or groups group None) (plus (get_or file i d).cost (get_or row i None))

    at : (g ≡ group) ⊎ (g ≡ group → ⊥) → get_or (set groups group worth) g None ≡ least_in (is_of_group file g) (take (i + 1) file) (take (i + 1) row)
    at (inl e) =
        ap (λ n. get_or (set groups group worth) n None) e ∙ get_or-set_same groups group worth None inside
        ∙ ap (λ n. lesser (get_or groups n None) (plus (get_or file i d).cost (get_or row i None))) (sym e)
        ∙ ap (λ o. lesser o (plus (get_or file i d).cost (get_or row i None))) (so_far g)
        ∙ sym (least_in_taken (is_of_group file g) file row i d less there (eq-eqb _ g (sym is ∙ sym e)))
    at (inr n) =
        get_or-set_other groups group g worth None n ∙ so_far g
        ∙ sym (least_in_left (is_of_group file g) file row i d less there (ne_eqb _ g (λ e. n (sym e ∙ sym is))))

-- Three tests in one.
least_in_or : (p q : Conversion → Bool) (file : List Conversion) (row : List (Option ℕ)) → least_in (λ c. p c || q c) file row ≡ lesser (least_in p file row) (least_in q file row)
least_in_or p q [] row = refl
least_in_or p q (x ∷ file) [] = refl
least_in_or p q (x ∷ file) (r ∷ row) =
    ap (lesser (cond (p x || q x) (plus x.cost r) None)) (least_in_or p q file row)
    ∙ four (p x) (q x) (plus x.cost r) (least_in p file row) (least_in q file row)
  where
    swap : (a b c d : Option ℕ) → lesser (lesser a b) (lesser c d) ≡ lesser (lesser a c) (lesser b d)
    swap a b c d =
        lesser_assoc a b (lesser c d)
        ∙ ap (lesser a) (sym (lesser_assoc b c d) ∙ ap (λ o. lesser o d) (lesser_comm b c) ∙ lesser_assoc c b d)
        ∙ sym (lesser_assoc a c (lesser b d))

    four : (v w : Bool) (a x y : Option ℕ) → lesser (cond (v || w) a None) (lesser x y) ≡ lesser (lesser (cond v a None) x) (lesser (cond w a None) y)
    four true true a x y = ap (λ o. lesser o (lesser x y)) (sym (lesser_same a)) ∙ swap a a x y
    four true false a x y = sym (lesser_assoc a x y)
    four false true a x y = ap (lesser a) (lesser_comm x y) ∙ sym (lesser_assoc a y x) ∙ lesser_comm (lesser a y) x
    four false false a x y = refl

-- The groups at three positions, and the conversions that these accept.
pub groups_taken : (file : List Conversion) (row groups : List (Option ℕ)) (positions : Positions) → ((g : ℕ) → get_or groups g None ≡ least_in (is_of_group file g) file row) → cost_in_groups groups positions ≡ least_in (is_taken file positions) file row
groups_taken file row groups positions is =
    let a = is_of_group file positions.of_type in
    let b = is_of_group file positions.of_super in
    let c = is_of_group file positions.of_any in
    ap (λ o. lesser o (lesser (get_or groups positions.of_super None) (get_or groups positions.of_any None))) (is positions.of_type)
    ∙ ap (λ o. lesser (least_in a file row) (lesser o (get_or groups positions.of_any None))) (is positions.of_super)
    ∙ ap (λ o. lesser (least_in a file row) (lesser (least_in b file row) o)) (is positions.of_any)
    ∙ sym (lesser_assoc (least_in a file row) (least_in b file row) (least_in c file row))
    ∙ ap (λ o. lesser o (least_in c file row)) (sym (least_in_or a b file row))
    ∙ sym (least_in_or (λ x. a x || b x) c file row)

-- The row of one more line.
pub next_is : (file : List Conversion) (to : List ℕ) (k : ℕ) (groups : List (Option ℕ)) → ((g : ℕ) → get_or groups g None ≡ least_in (is_of_group file g) file (row_of file to k)) → map (next_cost groups) (links_in file) ≡ row_of file to (k + 1)
next_is file to k groups is = over file
  where
    at : (c : Conversion) → next_cost groups (link_of (sources_of file) c) ≡ least file to (k + 1) c.destination
    at c =
        groups_taken file (row_of file to k) groups (positions_in (sources_of file) c.destination) is ∙ least_from file to c.destination k
        ∙ ap (λ n. least file to n c.destination) (sym (add-one k))

    over : (some : List Conversion) → map (next_cost groups) (map (link_of (sources_of file)) some) ≡ map (λ c. least file to (k + 1) c.destination) some
    over [] = refl
    over (x ∷ some) = ap (λ v. v ∷ map (next_cost groups) (map (link_of (sources_of file)) some)) (at x) ∙ ap (λ l. least file to (k + 1) x.destination ∷ l) (over some)

-- ## The first step

-- If a least cost exists, some conversion has it.
pub some_step : (p : Conversion → Bool) (file : List Conversion) (row : List (Option ℕ)) (m : ℕ) → least_in p file row ≡ Some m → (j : ℕ) × (j < length file) × ((d : Conversion) → is_at (cond (p (get_or file j d)) (plus (get_or file j d).cost (get_or row j None)) None) m ≡ true)
some_step p [] row m h = absurd (cc)
some_step p (x ∷ file) [] m h = absurd (cc)
some_step p (x ∷ file) (r ∷ row) m h = pick (λ e. some_step p file row m e) (lesser_one (cond (p x) (plus x.cost r) None) (least_in p file row) m h)
  where
    later : (j : ℕ) × (j < length file) × ((d : Conversion) → is_at (cond (p (get_or file j d)) (plus (get_or file j d).cost (get_or row j None)) None) m ≡ true)
        → (j : ℕ) × (j < length (x ∷ file)) × ((d : Conversion) → is_at (cond (p (get_or (x ∷ file) j d)) (plus (get_or (x ∷ file) j d).cost (get_or (r ∷ row) j None)) None) m ≡ true)
    later (j, less, is) = (suc j, omega arith, is)

    pick : (least_in p file row ≡ Some m → (j : ℕ) × (j < length file) × ((d : Conversion) → is_at (cond (p (get_or file j d)) (plus (get_or file j d).cost (get_or row j None)) None) m ≡ true))
        → (cond (p x) (plus x.cost r) None ≡ Some m) ⊎ (least_in p file row ≡ Some m)
        → (j : ℕ) × (j < length (x ∷ file)) × ((d : Conversion) → is_at (cond (p (get_or (x ∷ file) j d)) (plus (get_or (x ∷ file) j d).cost (get_or (r ∷ row) j None)) None) m ≡ true)
    pick rest (inl e) = (zero, omega arith, λ d. ap (λ o. is_at o m) e ∙ eq-eqb m m refl)
    pick rest (inr e) = later (rest e)

-- The link of a conversion.
pub link_at : (file : List Conversion) (links : List Link) (i : ℕ) (d : Conversion) (e : Link) → links ≡ links_in file → i < length file → get_or links i e ≡ link_of (sources_of file) (get_or file i d)
link_at file links i d e is less = ap (λ l. get_or l i e) is ∙ get_or-map (link_of (sources_of file)) file i d e less

-- ## The loops over the conversions

module _ (file : List Conversion) (links : List Link) (row : List (Option ℕ)) (i : ℕ) (x : Conversion) (e : Link) (linked : links ≡ links_in file) (long : length row ≡ length file) (less : i < length file) (here : x ≡ get_or file i x) where
  pub group_is : (get_or links i e).group ≡ position_in (sources_of file) (get_or file i x).source
  group_is = ap (λ l. l.group) (link_at file links i x e linked less)

  pub group_inside : (get_or links i e).group < length file
  group_inside = subst (λ g. g < length file) (sym group_is) (source_place file i x less)

  -- The cost of this conversion, if it is taken.
  taken_is : (positions : Positions) → cond (takes positions (get_or links i e).group) (plus x.cost (get_or row i None)) None ≡ cond (is_taken file positions (get_or file i x)) (plus (get_or file i x).cost (get_or row i None)) None
  taken_is positions =
      ap (λ g. cond (takes positions g) (plus x.cost (get_or row i None)) None) group_is
      ∙ ap (λ n. cond (is_taken file positions (get_or file i x)) (plus n (get_or row i None)) None) (ap (λ y. y.cost) here)

  pub cost_more : (positions : Positions) (so_far this next : Option ℕ) → so_far ≡ least_in (is_taken file positions) (take i file) (take i row)
      → this ≡ cond (takes positions (get_or links i e).group) (plus x.cost (get_or row i None)) None → next ≡ lesser so_far this
      → next ≡ least_in (is_taken file positions) (take (i + 1) file) (take (i + 1) row)
  cost_more positions so_far this next before is after =
      after ∙ ap (λ o. lesser o this) before ∙ ap (lesser (least_in (is_taken file positions) (take i file) (take i row))) (is ∙ taken_is positions)
      ∙ sym (ap (λ n. least_in (is_taken file positions) (take n file) (take n row)) (add-one i) ∙ least_in_step (is_taken file positions) file row i x less (omega arith))

  pub step_here : (positions : Positions) (m : ℕ) (b : Bool) → b ≡ is_at (cond (takes positions (get_or links i e).group) (plus x.cost (get_or row i None)) None) m → (d : Conversion) → is_step file row positions m i d ≡ b
  step_here positions m b is d =
      ap (λ y. is_at (cond (is_taken file positions y) (plus y.cost (get_or row i None)) None) m) (get_or_default file i d x less)
      ∙ ap (λ o. is_at o m) (sym (taken_is positions)) ∙ sym is

  pub step_more : (positions : Positions) (m : ℕ) → false ≡ is_at (cond (takes positions (get_or links i e).group) (plus x.cost (get_or row i None)) None) m
      → ((j : ℕ) (d : Conversion) → j < i → is_step file row positions m j d ≡ false) → (j : ℕ) (d : Conversion) → j < i + 1 → is_step file row positions m j d ≡ false
  step_more positions m is before j d below = elim (cases_lt j i) [ inl l ↦ before j d l | inr l ↦ (let f : i ≡ j = omega arith in subst (λ k. is_step file row positions m k d ≡ false) f (step_here positions m false is d)) ]

  pub groups_next : (groups : List (Option ℕ)) (cost next : Option ℕ) → length groups ≡ length file → AreGroups file row groups i → cost ≡ plus x.cost (get_or row i None) → next ≡ lesser (get_or groups (get_or links i e).group None) cost
      → AreGroups file row (set groups (get_or links i e).group next) (i + 1)
  groups_next groups cost next size so_far is after =
      subst (λ v. AreGroups file row (set groups (get_or links i e).group v) (i + 1))
      (sym (after ∙ ap (lesser (get_or groups (get_or links i e).group None)) (is ∙ ap (λ y. plus y.cost (get_or row i None)) here)))
      (groups_more file row groups i (get_or links i e).group x less (omega arith) group_is (let g = group_inside in omega arith) so_far)

-- A least cost without any step is a contradiction.
pub no_step : (file : List Conversion) (row : List (Option ℕ)) (positions : Positions) (m : ℕ) (i : ℕ) → length file ≤ i → least_in (is_taken file positions) file row ≡ Some m → ((j : ℕ) (d : Conversion) → j < i → is_step file row positions m j d ≡ false) → ⊥
no_step file row positions m i le h none = against (some_step (is_taken file positions) file row m h)
  where
    against : (j : ℕ) × (j < length file) × ((d : Conversion) → is_step file row positions m j d ≡ true) → ⊥
    against (j, less, is) = first file less is (none j)
      where
        first : (some : List Conversion) → j < length some → ((d : Conversion) → is_step file row positions m j d ≡ true) → ((d : Conversion) → j < i → is_step file row positions m j d ≡ false) → ⊥
        first [] l is fails = omega arith
        first (c ∷ some) l is fails = both_ways (is_step file row positions m j c) (fails c (omega arith)) (is c)

-- The costs of rows are small.
pub row_small : (file : List Conversion) → AreCheap file → (to : List ℕ) (k : ℕ) → k ≤ 15 → All IsSmall (row_of file to k)
row_small file cheap to k le j d less =
    subst IsSmall (sym (get_or-map (λ c. least file to k c.destination) file j (dummy file j less) d (within j less))) (small (least file to k (get_or file j (dummy file j less)).destination) (λ m e. least_small file cheap to k _ m e))
  where
    within : (j : ℕ) → j < length (row_of file to k) → j < length file
    within j less = let l = length-map file (λ c. least file to k c.destination) in omega arith

    dummy : (some : List Conversion) (j : ℕ) → j < length (map (λ c. least file to k c.destination) some) → Conversion
    dummy [] j less = absurd (omega arith)
    dummy (c ∷ some) j less = c

    small : (cost : Option ℕ) → ((m : ℕ) → cost ≡ Some m → m ≤ 10000 * k) → IsSmall cost
    small None h = tt
    small (Some n) h = let l : n ≤ 10000 * k = h n refl in omega arith
