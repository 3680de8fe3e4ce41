-- The least costs of walks by their number of lines, and the first walk of such a cost. Internal: no caller needs this.
use Rattle.std.specs.Prelude.{◌≡◌, ◌⊎◌, ℕ, zero, suc, ◌+◌, ◌-◌, ◌<◌, ◌≤◌, min, Bool, false, ◌==◌, cond, nat_le, List, [], ◌∷◌, Option, None, Some, IfSome, map, get_or, length}
use Rattle.std.specs.List.{find, All}
use Rattle.std.specs.declared.alloc.Global.{Global}
use Rattle.std.specs.declared.vec.Vec.{Vec}
pub use Rattle.walk_costs.specs.WalkCosts.{lesser, plus, IsSmall}
use Rattle.mime_costs.specs.Conversions.{same, matches}
use Rattle.mime_costs.specs.declared.chain.Size.{Size}
use Rattle.mime_costs.specs.SourceIndex.{position_in, positions_in, sources_of, takes}
use Rattle.mime_costs.specs.declared.links.Positions.{Positions}
use Rattle.mime_costs.specs.declared.links.Link.{Link}
use Rattle.mime_costs.specs.declared.conversion.Conversion.{Conversion}

-- The cost exists and is m.
abbrev pub is_at : Option ℕ → ℕ → Bool
is_at None m = false
is_at (Some n) m = n == m

-- The least over the conversions that pass.
abbrev pub least_of : (Conversion → Bool) → (Conversion → Option ℕ) → List Conversion → Option ℕ
least_of p f [] = None
least_of p f (c ∷ file) = lesser (cond (p c) (f c) None) (least_of p f file)

-- The same, with a row that contains the cost after each conversion.
abbrev pub least_in : (Conversion → Bool) → List Conversion → List (Option ℕ) → Option ℕ
least_in p [] row = None
least_in p (c ∷ file) [] = None
least_in p (c ∷ file) (r ∷ row) = lesser (cond (p c) (plus c.cost r) None) (least_in p file row)

-- The least cost of a walk of this number of lines from a type.
unfoldable pub least : List Conversion → List ℕ → ℕ → List ℕ → Option ℕ
least file to zero media = cond (same media to) (Some 0) None
least file to (suc k) media = least_of (λ c. matches c.source media) (λ c. plus c.cost (least file to k c.destination)) file

-- ## Rows: the cost of the cheapest walk of n lines after each conversion

abbrev pub row_of : List Conversion → List ℕ → ℕ → List (Option ℕ)
row_of file to k = map (λ c. least file to k c.destination) file

abbrev pub cost_in_groups : List (Option ℕ) → Positions → Option ℕ
cost_in_groups groups positions = lesser (get_or groups positions.of_type None) (lesser (get_or groups positions.of_super None) (get_or groups positions.of_any None))

abbrev pub next_cost : List (Option ℕ) → Link → Option ℕ
next_cost groups link = cost_in_groups groups link.next

-- The conversion's source is at this position.
abbrev pub is_of_group : List Conversion → ℕ → Conversion → Bool
is_of_group file g c = position_in (sources_of file) c.source == g

-- The conversion accepts the type at these positions.
abbrev pub is_taken : List Conversion → Positions → Conversion → Bool
is_taken file positions c = takes positions (position_in (sources_of file) c.source)

-- ## The choice of the walk

-- The conversion begins a walk at the cost m from the type at these positions, with k more lines.
abbrev pub begins : List Conversion → List ℕ → ℕ → ℕ → Positions → Conversion → Bool
begins file to k m positions c = is_at (cond (is_taken file positions c) (plus c.cost (least file to k c.destination)) None) m

-- The first walk of k lines at the cost m.
unfoldable pub best : List Conversion → List ℕ → ℕ → ℕ → Positions → List Conversion
best file to zero m positions = []
best file to (suc k) m positions = elim (find (begins file to k m positions) file) [ None ↦ [] | Some c ↦ c ∷ best file to k (m - c.cost) (positions_in (sources_of file) c.destination) ]

-- The conversion at j begins a walk at the cost m. The row has the cost of the rest.
abbrev pub is_step : List Conversion → List (Option ℕ) → Positions → ℕ → ℕ → Conversion → Bool
is_step file row positions m j d = is_at (cond (is_taken file positions (get_or file j d)) (plus (get_or file j d).cost (get_or row j None)) None) m

-- A row of n costs that are far from any limit.
abbrev pub IsRow : ℕ → Vec (Option ℕ) Global → Type 0
IsRow n row = (length row.items ≡ n) × All IsSmall row.items

-- The rows of walks of fewer than n lines.
pub record IsTable (file : List Conversion) (to : List ℕ) (n : ℕ) (table : List (Vec (Option ℕ) Global)) : Type 0 where
  pub count : length table ≡ n
  pub row : (k : ℕ) (d : Vec (Option ℕ) Global) → k < n → (get_or table k d).items ≡ row_of file to k

-- The costs of the cheapest walks from these positions, by the number of lines after the first.
abbrev pub costs_from : List Conversion → Positions → List (Vec (Option ℕ) Global) → List (Option ℕ)
costs_from file positions rows = map (λ row. least_in (is_taken file positions) file row.items) rows

-- The better of the best so far and a walk of more lines.
abbrev pub better_size : Option Size → Option ℕ → ℕ → Option Size
better_size best None rest = best
better_size None (Some cost) rest = Some (record { cost = cost; rest = rest })
better_size (Some best) (Some cost) rest = cond (nat_le best.cost cost) (Some best) (Some (record { cost = cost; rest = rest }))

-- The least of these costs, and its first position.
abbrev pub IsBestSize : List (Option ℕ) → Option Size → Type 0
IsBestSize costs None = (k : ℕ) → get_or costs k None ≡ None
IsBestSize costs (Some size) = (get_or costs size.rest None ≡ Some size.cost) × ((k m : ℕ) → get_or costs k None ≡ Some m → (size.cost < m) ⊎ ((size.cost ≡ m) × (size.rest ≤ k)))
