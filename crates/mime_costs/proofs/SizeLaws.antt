-- The best size of a walk, and the chain of that size.
use Rattle.std.proofs.Common.{◌≡◌, ℕ, suc, zero, ◌+◌, ◌<◌, ◌≤◌, true, false, cond, List, [], ◌∷◌, ◌++◌, length, get_or, take, map, refl, ap, sym, ◌∙◌, arith, subst, add-one, Option, None, Some, ◌⊎◌, inl, inr, leb}
use Rattle.std.proofs.lemmas.Bool.{cases_lt, cases_eq, leb-true, leb-false}
use Rattle.std.proofs.lemmas.List.{length-map, get_or-map, get_or_append_left, get_or_push, get_or_past, length_push, length-take-le, map_more}
use Rattle.std.specs.List.{All}
use Rattle.std.specs.declared.alloc.Global.{Global}
use Rattle.std.specs.declared.vec.Vec.{Vec}
use Rattle.mime_costs.specs.SourceIndex.{sources_of, positions_in, Ascends, AreCheap}
use Rattle.mime_costs.specs.Costs.{least, best, least_in, row_of, is_taken, IsTable, IsRow, IsSmall, IsBestSize, better_size, costs_from}
use Rattle.mime_costs.specs.Walks.{line_of, IsReached, IsLeast, IsApart}
use Rattle.mime_costs.specs.declared.chain.Size.{Size}
use Rattle.mime_costs.specs.declared.conversion.Conversion.{Conversion}
use Rattle.mime_costs.specs.declared.links.Positions.{Positions}
use Rattle.mime_costs.proofs.LeastLaws.{least_from}
use Rattle.mime_costs.proofs.RowLaws.{row_small}
use Rattle.mime_costs.proofs.BestLaws.{IsBest, reached, none_beats, apart, none_empty}

-- ## One more cost

module _ (costs : List (Option ℕ)) (cost : Option ℕ) where
  before : (k : ℕ) → k < length costs → get_or (costs ++ cost ∷ []) k None ≡ get_or costs k None
  before k less = get_or_append_left costs (cost ∷ []) None k less

  here : get_or (costs ++ cost ∷ []) (length costs) None ≡ cost
  here = get_or_push costs cost None (length costs) refl

  -- A cost that exists is one of the earlier ones, or the last.
  where_is : (k m : ℕ) → get_or (costs ++ cost ∷ []) k None ≡ Some m → ((k < length costs) × (get_or costs k None ≡ Some m)) ⊎ ((k ≡ length costs) × (cost ≡ Some m))
  where_is k m h =
      elim (cases_lt k (length costs)) [
        | inl l ↦ inl (l, sym (before k l) ∙ h)
        | inr l ↦ elim (cases_eq k (length costs)) [
          | inl e ↦ inr (e, sym here ∙ ap (λ n. get_or (costs ++ cost ∷ []) n None) (sym e) ∙ h)
          | inr n ↦ (let p : get_or (costs ++ cost ∷ []) k None ≡ None = get_or_past (costs ++ cost ∷ []) k None (let s = length_push costs cost in omega (arith, n)) in absurd (cc))
        ]
      ]

  -- No earlier cost, and none now.
  still_none : cost ≡ None → ((k : ℕ) → get_or costs k None ≡ None) → (k : ℕ) → get_or (costs ++ cost ∷ []) k None ≡ None
  still_none none h k =
      elim (cases_lt k (length costs)) [
        | inl l ↦ before k l ∙ h k
        | inr l ↦ elim (cases_eq k (length costs)) [
          | inl e ↦ ap (λ n. get_or (costs ++ cost ∷ []) n None) e ∙ here ∙ none
          | inr n ↦ get_or_past (costs ++ cost ∷ []) k None (let s = length_push costs cost in omega (arith, n))
        ]
      ]

-- A cost that exists is within the list.
within : (costs : List (Option ℕ)) (k m : ℕ) → get_or costs k None ≡ Some m → k < length costs
within costs k m h =
    elim (cases_lt k (length costs)) [ inl l ↦ l | inr l ↦ (let p : get_or costs k None ≡ None = get_or_past costs k None l in absurd (cc)) ]

pub best_more : (costs : List (Option ℕ)) (so_far : Option Size) (cost : Option ℕ) → IsBestSize costs so_far → IsBestSize (costs ++ cost ∷ []) (better_size so_far cost (length costs))
best_more costs None None h = still_none costs None refl h
best_more costs (Some size) None h = (before costs None size.rest (within costs size.rest size.cost h.0) ∙ h.0, λ k m e. only k m (where_is costs None k m e))
  where
    only : (k m : ℕ) → ((k < length costs) × (get_or costs k None ≡ Some m)) ⊎ ((k ≡ length costs) × (None ≡ Some m)) → (size.cost < m) ⊎ ((size.cost ≡ m) × (size.rest ≤ k))
    only k m (inl p) = h.1 k m p.1
    only k m (inr p) = (let e : None ≡ Some m = p.1 in absurd (cc))
best_more costs None (Some cost) h = (here costs (Some cost), λ k m e. only k m (where_is costs (Some cost) k m e))
  where
    only : (k m : ℕ) → ((k < length costs) × (get_or costs k None ≡ Some m)) ⊎ ((k ≡ length costs) × (Some cost ≡ Some m)) → (cost < m) ⊎ ((cost ≡ m) × (length costs ≤ k))
    only k m (inl p) = (let e : get_or costs k None ≡ Some m = p.1 in let f : get_or costs k None ≡ None = h k in absurd (cc))
    only k m (inr p) = (let e : Some cost ≡ Some m = p.1 in let f : k ≡ length costs = p.0 in inr ((let g : cost ≡ m = cc in g), omega arith))
best_more costs (Some size) (Some cost) h =
    (elim (leb size.cost cost) as (λ v. leb size.cost cost ≡ v → IsBestSize (costs ++ Some cost ∷ []) (cond v (Some size) (Some (record { cost = cost; rest = length costs })))) [
      | true ↦ λ t. (before costs (Some cost) size.rest inside ∙ h.0, λ k m e. stays (leb-true size.cost cost t) k m (where_is costs (Some cost) k m e))
      | false ↦ λ f. (here costs (Some cost), λ k m e. changes (leb-false size.cost cost f) k m (where_is costs (Some cost) k m e))
    ]) refl
  where
    inside : size.rest < length costs
    inside = within costs size.rest size.cost h.0

    stays : size.cost ≤ cost → (k m : ℕ) → ((k < length costs) × (get_or costs k None ≡ Some m)) ⊎ ((k ≡ length costs) × (Some cost ≡ Some m)) → (size.cost < m) ⊎ ((size.cost ≡ m) × (size.rest ≤ k))
    stays le k m (inl p) = h.1 k m p.1
    stays le k m (inr p) =
        let e : Some cost ≡ Some m = p.1 in
        let g : cost ≡ m = cc in
        let f : k ≡ length costs = p.0 in
        let i = inside in
        elim (cases_lt size.cost m) [ inl l ↦ inl l | inr l ↦ inr (omega arith, omega arith) ]

    changes : cost < size.cost → (k m : ℕ) → ((k < length costs) × (get_or costs k None ≡ Some m)) ⊎ ((k ≡ length costs) × (Some cost ≡ Some m)) → (cost < m) ⊎ ((cost ≡ m) × (length costs ≤ k))
    changes less k m (inl p) = inl (lower (h.1 k m p.1))
      where
        lower : (size.cost < m) ⊎ ((size.cost ≡ m) × (size.rest ≤ k)) → cost < m
        lower (inl l) = omega arith
        lower (inr l) = let e : size.cost ≡ m = l.0 in omega arith
    changes less k m (inr p) = (let e : Some cost ≡ Some m = p.1 in let f : k ≡ length costs = p.0 in inr ((let g : cost ≡ m = cc in g), omega arith))

-- One more row.
pub size_more : (file : List Conversion) (positions : Positions) (rows : List (Vec (Option ℕ) Global)) (i : ℕ) (row : Vec (Option ℕ) Global) → i < length rows → row ≡ get_or rows i row → (so_far next : Option Size) (cost : Option ℕ)
    → IsBestSize (costs_from file positions (take i rows)) so_far → cost ≡ least_in (is_taken file positions) file row.items → next ≡ better_size so_far cost i → IsBestSize (costs_from file positions (take (i + 1) rows)) next
size_more file positions rows i row less here so_far next cost best is after =
    let costs = costs_from file positions (take i rows) in
    let long : length costs ≡ i = length-map (take i rows) (λ r. least_in (is_taken file positions) file r.items) ∙ length-take-le i rows (omega arith) in
    subst (λ l. IsBestSize l next)
    (ap (λ o. costs ++ o ∷ []) (is ∙ ap (λ r. least_in (is_taken file positions) file r.items) here) ∙ sym (map_more (λ r. least_in (is_taken file positions) file r.items) rows i row less))
    (subst (IsBestSize (costs ++ cost ∷ [])) (ap (better_size so_far cost) long ∙ sym after) (best_more costs so_far cost best))

pub table_more : (file : List Conversion) (to : List ℕ) (n : ℕ) (rows : List (Vec (Option ℕ) Global)) (row : Vec (Option ℕ) Global) → IsTable file to n rows → row.items ≡ row_of file to n → IsTable file to (n + 1) (rows ++ row ∷ [])
table_more file to n rows row table is = record { count = length_push rows row ∙ ap (λ m. m + 1) table.count; row = λ k d less. at k d less (cases_lt k n) }
  where
    at : (k : ℕ) (d : Vec (Option ℕ) Global) → k < n + 1 → (k < n) ⊎ (n ≤ k) → (get_or (rows ++ row ∷ []) k d).items ≡ row_of file to k
    at k d less (inl l) = let c : length rows ≡ n = table.count in ap (λ r. r.items) (get_or_append_left rows (row ∷ []) d k (omega arith)) ∙ table.row k d l
    at k d less (inr l) =
        let c : length rows ≡ n = table.count in
        let e : n ≡ k = omega arith in
        ap (λ r. r.items) (get_or_push rows row d k (omega arith)) ∙ is ∙ ap (row_of file to) e

pub table_rows : (file : List Conversion) → AreCheap file → (to : List ℕ) (rows : List (Vec (Option ℕ) Global)) → IsTable file to 15 rows → All (IsRow (length file)) rows
table_rows file cheap to rows table k d less =
    let c : length rows ≡ 15 = table.count in
    let l : k < 15 = omega arith in
    (ap length (table.row k d l) ∙ length-map file (λ c. least file to k c.destination), subst (All IsSmall) (sym (table.row k d l)) (row_small file cheap to k (omega arith)))

-- ## The chain of the best size

module _ (file : List Conversion) (from to : List ℕ) (rows : List (Vec (Option ℕ) Global)) (d : Vec (Option ℕ) Global) (table : IsTable file to 15 rows) (other : from ≡ to → ⊥) where
  abbrev pub costs : List (Option ℕ)
  costs = costs_from file (positions_in (sources_of file) from) rows

  -- The meaning of the costs for walks.
  cost_at : (k : ℕ) → k < 15 → get_or costs k None ≡ least file to (suc k) from
  cost_at k less =
      let count : length rows ≡ 15 = table.count in
      get_or-map (λ row. least_in (is_taken file (positions_in (sources_of file) from)) file row.items) rows k d None (omega arith)
      ∙ ap (least_in (is_taken file (positions_in (sources_of file) from)) file) (table.row k d less)
      ∙ least_from file to from k

  inside : (k m : ℕ) → get_or costs k None ≡ Some m → k < 15
  inside k m h =
      let count : length rows ≡ 15 = table.count in
      let long = length-map rows (λ row. least_in (is_taken file (positions_in (sources_of file) from)) file row.items) in
      let l : k < length costs = within costs k m h in
      omega arith

  pub no_size : ((k : ℕ) → get_or costs k None ≡ None) → IsApart file from to
  no_size none = apart file from to none_at
    where
      none_at : (j : ℕ) → j ≤ 15 → least file to j from ≡ None
      none_at zero le = none_empty file from to other
      none_at (suc j) le = sym (cost_at j (omega arith)) ∙ none j

  pub some_size : (size : Size) → IsBestSize costs (Some size) → IsBest file from to (size.rest + 1) size.cost
  some_size size h = record {
    short = (let l = inside size.rest size.cost h.0 in omega arith);
    there = ap (λ n. least file to n from) (add-one size.rest) ∙ sym (cost_at size.rest (inside size.rest size.cost h.0)) ∙ h.0;
    least_cost = λ j n. at j n;
  }
    where
      at : (j n : ℕ) → j ≤ 15 → least file to j from ≡ Some n → (size.cost < n) ⊎ ((size.cost ≡ n) × (size.rest + 1 ≤ j))
      at zero n le e = (let f = none_empty file from to other in absurd (cc))
      at (suc j) n le e = raise (h.1 j n (cost_at j (omega arith) ∙ e))
        where
          raise : (size.cost < n) ⊎ ((size.cost ≡ n) × (size.rest ≤ j)) → (size.cost < n) ⊎ ((size.cost ≡ n) × (size.rest + 1 ≤ suc j))
          raise (inl l) = inl l
          raise (inr p) = inr (p.0, (let l : size.rest ≤ j = p.1 in omega arith))

-- The chain of the size that was found.
pub some_chain : (file : List Conversion) → Ascends 1 file → (to : List ℕ) (rows : List (Vec (Option ℕ) Global)) (d : Vec (Option ℕ) Global) → IsTable file to 15 rows → (size : Size) (positions : Positions) → IsBestSize (costs_from file positions rows) (Some size) → (lines : List ℕ)
    → lines ≡ map line_of (best file to (size.rest + 1) size.cost positions) → (from : List ℕ) → positions ≡ positions_in (sources_of file) from → (from ≡ to → ⊥)
    → IsReached file from to (record { cost = size.cost; lines = lines }) × IsLeast file from to (record { cost = size.cost; lines = lines })
some_chain file rising to rows d table size positions found lines is from here other =
    let b : IsBest file from to (size.rest + 1) size.cost = some_size file from to rows d table other size (subst (λ p. IsBestSize (costs_from file p rows) (Some size)) here found) in
    let e : map line_of (best file to (size.rest + 1) size.cost (positions_in (sources_of file) from)) ≡ lines = sym (is ∙ ap (λ p. map line_of (best file to (size.rest + 1) size.cost p)) here) in (
      subst (λ l. IsReached file from to (record { cost = size.cost; lines = l })) e (reached file from to (size.rest + 1) size.cost b),
      subst (λ l. IsLeast file from to (record { cost = size.cost; lines = l })) e (none_beats file from to (size.rest + 1) size.cost b rising),
    )
