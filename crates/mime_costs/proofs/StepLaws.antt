-- The lines of a walk, found in order.
use Rattle.std.proofs.Common.{◌≡◌, ℕ, suc, zero, ◌-◌, ◌<◌, ◌≤◌, Bool, true, false, cond, List, [], ◌∷◌, ◌++◌, length, get_or, map, ap, sym, ◌∙◌, arith, subst, Option, None, Some}
use Rattle.std.proofs.lemmas.List.{get_or-map, append_assoc, append-nil, length-map}
use Rattle.std.specs.Prelude.{Result, Ok, Err, IfOk, IfSome}
use Rattle.std.specs.declared.alloc.AllocError.{AllocError}
use Rattle.mime_costs.specs.declared.chain.Chain.{Chain}
use Rattle.mime_costs.specs.ConversionFields.{IsAnswer}
use Rattle.std.specs.List.{find, Contains, All}
use Rattle.std.specs.declared.alloc.Global.{Global}
use Rattle.std.specs.declared.vec.Vec.{Vec}
use Rattle.mime_costs.specs.SourceIndex.{sources_of, positions_in, Ascends}
use Rattle.mime_costs.specs.Costs.{plus, is_at, least, least_in, best, begins, is_taken, is_step, row_of, IsTable}
use Rattle.mime_costs.specs.Walks.{line_of, Leads}
use Rattle.mime_costs.specs.declared.conversion.Conversion.{Conversion}
use Rattle.mime_costs.specs.declared.links.Positions.{Positions}
use Rattle.mime_costs.proofs.BestLaws.{rest_cost, taken_at, rises}
use Rattle.mime_costs.proofs.LeastLaws.{least_from}

-- The first conversion that passes is found.
found_at : (p : Conversion → Bool) (file : List Conversion) (i : ℕ) (d : Conversion) → i < length file → p (get_or file i d) ≡ true → ((j : ℕ) → j < i → p (get_or file j d) ≡ false) → find p file ≡ Some (get_or file i d)
found_at p [] i d less is before = absurd (omega arith)
found_at p (x ∷ file) zero d less is before = ap (λ v. cond v (Some x) (find p file)) is
found_at p (x ∷ file) (suc i) d less is before = ap (λ v. cond v (Some x) (find p file)) (before zero (omega arith)) ∙ found_at p file i d (omega arith) is (λ j l. before (suc j) (omega arith))

module _ (file : List Conversion) (to : List ℕ) (k m : ℕ) (positions : Positions) (i : ℕ) (x : Conversion) (row : List (Option ℕ)) (less : i < length file) (here : x ≡ get_or file i x) (rows : row ≡ row_of file to k)
    (is : (d : Conversion) → is_step file row positions m i d ≡ true) (before : (j : ℕ) (d : Conversion) → j < i → is_step file row positions m j d ≡ false) where
  begins_at : (j : ℕ) → j < length file → begins file to k m positions (get_or file j x) ≡ is_step file row positions m j x
  begins_at j l =
      ap (λ o. is_at (cond (is_taken file positions (get_or file j x)) (plus (get_or file j x).cost o) None) m)
      (sym (ap (λ r. get_or r j None) rows ∙ get_or-map (λ c. least file to k c.destination) file j x None l))

  parts : (is_taken file positions (get_or file i x) ≡ true) × (plus (get_or file i x).cost (get_or row i None) ≡ Some m)
  parts = taken_at (is_taken file positions (get_or file i x)) (plus (get_or file i x).cost (get_or row i None)) m (is x)

  -- The cost of the rest of the walk.
  behind : (least file to k x.destination ≡ Some (m - x.cost)) × (x.cost ≤ m)
  behind =
      rest_cost x.cost m (least file to k x.destination)
      (ap (λ y. plus y.cost (least file to k y.destination)) here
      ∙ ap (plus (get_or file i x).cost) (sym (ap (λ r. get_or r i None) rows ∙ get_or-map (λ c. least file to k c.destination) file i x None less))
      ∙ parts.1)

  pub cost_less : x.cost ≤ m
  cost_less = behind.1

  -- The walk begins with this conversion.
  pub best_begins : best file to (suc k) m positions ≡ x ∷ best file to k (m - x.cost) (positions_in (sources_of file) x.destination)
  unfolding best
  best_begins =
      ap (λ o. elim o [ None ↦ [] | Some c ↦ c ∷ best file to k (m - c.cost) (positions_in (sources_of file) c.destination) ])
      (found_at (begins file to k m positions) file i x less (begins_at i less ∙ is x) (λ j l. begins_at j (omega arith) ∙ before j x l) ∙ ap Some (sym here))

  module _ (next : Positions) (cost : ℕ) (led : next ≡ positions_in (sources_of file) x.destination) (paid : cost ≡ x.cost) where
    pub lines_begin : (lines after : List ℕ) → after ≡ lines ++ x.line ∷ [] → after ++ map line_of (best file to k (m - cost) next) ≡ lines ++ map line_of (best file to (suc k) m positions)
    lines_begin lines after pushed =
        ap (λ l. l ++ map line_of (best file to k (m - cost) next)) pushed
        ∙ ap (λ n. (lines ++ x.line ∷ []) ++ map line_of (best file to k (m - n) next)) paid
        ∙ ap (λ p. (lines ++ x.line ∷ []) ++ map line_of (best file to k (m - x.cost) p)) led
        ∙ append_assoc lines (x.line ∷ []) (map line_of (best file to k (m - x.cost) (positions_in (sources_of file) x.destination)))
        ∙ ap (λ w. lines ++ map line_of w) (sym best_begins)

    pub next_there : (j : ℕ) → k ≡ suc j → least_in (is_taken file next) file (row_of file to j) ≡ Some (m - cost)
    next_there j e =
        ap (λ p. least_in (is_taken file p) file (row_of file to j)) led
        ∙ least_from file to x.destination j ∙ ap (λ n. least file to n x.destination) (sym e) ∙ behind.0 ∙ ap (λ n. Some (m - n)) (sym paid)

pub best_none : (file : List Conversion) (to : List ℕ) (m : ℕ) (positions : Positions) (lines whole : List ℕ) → lines ++ map line_of (best file to zero m positions) ≡ whole → lines ≡ whole
unfolding best
best_none file to m positions lines whole h = sym (append-nil lines) ∙ h

-- The lines of a walk are lines of the file.
pub lines_there : (file : List Conversion) (from : List ℕ) (walk : List Conversion) (to : List ℕ) → Leads file from walk to → All (Contains (map line_of file)) (map line_of walk)
lines_there file from [] to h k d less = absurd (omega arith)
lines_there file from (c ∷ walk) to ((n, less, is), takes, leads) zero d inside =
    (n, (let l = length-map file line_of in omega arith), get_or-map line_of file n c c.line less ∙ ap line_of is)
lines_there file from (c ∷ walk) to (there, takes, leads) (suc k) d inside = lines_there file c.destination walk to leads k d (omega arith)

-- A line belongs to one conversion.
pub same_line : (n : ℕ) (file : List Conversion) (c v : Conversion) → Ascends n file → Contains file c → Contains file v → c.line ≡ v.line → c ≡ v
same_line n [] c v rising (k, less, is) there same = absurd (omega arith)
same_line n (x ∷ file) c v rising (zero, less, is) (zero, below, at) same = sym is ∙ at
same_line n (x ∷ file) c v rising (zero, less, is) (suc j, below, at) same =
    let l : suc x.line ≤ v.line = rises (suc x.line) file v rising.1 (j, omega arith, at) in let e : x.line ≡ c.line = ap line_of is in absurd (omega arith)
same_line n (x ∷ file) c v rising (suc k, less, is) (zero, below, at) same =
    let l : suc x.line ≤ c.line = rises (suc x.line) file c rising.1 (k, omega arith, is) in let e : x.line ≡ v.line = ap line_of at in absurd (omega arith)
same_line n (x ∷ file) c v rising (suc k, less, is) (suc j, below, at) same = same_line (suc x.line) file c v rising.1 (k, omega arith, is) (j, omega arith, at) same

-- The lines of a result are lines of the file.
pub answer_lines : (file : List Conversion) (from to : List ℕ) (answer : Result (Option Chain) AllocError) → IfOk answer (IsAnswer file from to) → IfOk answer (λ found. IfSome found (λ chain. All (Contains (map line_of file)) chain.lines.items))
answer_lines file from to (Err e) h = tt
answer_lines file from to (Ok None) h = tt
answer_lines file from to (Ok (Some chain)) ((walk, is, worth), least) = subst (All (Contains (map line_of file))) (ap (λ w. w.lines) worth) (lines_there file from walk to is.leads)

-- A row of a table.
pub row_there : {file : List Conversion} {to : List ℕ} (rows : List (Vec (Option ℕ) Global)) → IsTable file to 15 rows → Vec (Option ℕ) Global
row_there [] table = (let e : 0 ≡ 15 = table.count in absurd (omega arith))
row_there (row ∷ rows) table = row
