-- The least costs of walks, by their number of lines.
use Rattle.std.proofs.Common.{◌≡◌, ℕ, suc, zero, ◌+◌, ◌*◌, ◌≤◌, min, Bool, true, false, cond, List, [], ◌∷◌, length, map, refl, ap, sym, ◌∙◌, arith, subst, Option, None, Some, ◌⊎◌, inl, inr}
use Rattle.std.proofs.lemmas.Bool.{cond-true, cases_lt}
use Rattle.std.specs.List.{Contains}
use Rattle.mime_costs.specs.Conversions.{same, matches}
use Rattle.mime_costs.specs.SourceIndex.{sources_of, positions_in, AreCheap}
use Rattle.mime_costs.specs.Costs.{lesser, plus, least_of, least_in, least, row_of, is_taken}
use Rattle.mime_costs.specs.Walks.{Leads, cost_of}
use Rattle.mime_costs.specs.declared.conversion.Conversion.{Conversion}
use Rattle.mime_costs.proofs.PlaceLaws.{same-refl, taken_matches}

-- ## The lower of two costs

pub lesser-none : (a : Option ℕ) → lesser a None ≡ a
lesser-none None = refl
lesser-none (Some a) = refl

pub lesser_assoc : (a b c : Option ℕ) → lesser (lesser a b) c ≡ lesser a (lesser b c)
lesser_assoc None b c = refl
lesser_assoc (Some a) None c = refl
lesser_assoc (Some a) (Some b) None = refl
lesser_assoc (Some a) (Some b) (Some c) = let e : min (min a b) c ≡ min a (min b c) = omega arith in ap Some e

pub lesser_comm : (a b : Option ℕ) → lesser a b ≡ lesser b a
lesser_comm None None = refl
lesser_comm None (Some b) = refl
lesser_comm (Some a) None = refl
lesser_comm (Some a) (Some b) = let e : min a b ≡ min b a = omega arith in ap Some e

pub lesser_same : (a : Option ℕ) → lesser a a ≡ a
lesser_same None = refl
lesser_same (Some a) = let e : min a a ≡ a = omega arith in ap Some e

-- The cost exists and is at most n.
abbrev pub AtMost : Option ℕ → ℕ → Type 0
AtMost cost n = (m : ℕ) × (cost ≡ Some m) × (m ≤ n)

pub lesser_left : (a b : Option ℕ) (n : ℕ) → AtMost a n → AtMost (lesser a b) n
lesser_left a None n (m, is, le) = (m, lesser-none a ∙ is, le)
lesser_left a (Some b) n (m, is, le) = (min m b, ap (λ v. lesser v (Some b)) is, omega arith)

pub lesser_right : (a b : Option ℕ) (n : ℕ) → AtMost b n → AtMost (lesser a b) n
lesser_right None b n h = h
lesser_right (Some a) b n (m, is, le) = (min a m, ap (lesser (Some a)) is, omega arith)

-- The lower of two costs is one of them.
pub lesser_one : (a b : Option ℕ) (m : ℕ) → lesser a b ≡ Some m → (a ≡ Some m) ⊎ (b ≡ Some m)
lesser_one None b m h = inr h
lesser_one (Some a) None m h = inl h
lesser_one (Some a) (Some b) m h = pick (cases_le a b)
  where
    cases_le : (a b : ℕ) → (min a b ≡ a) ⊎ (min a b ≡ b)
    cases_le a b = elim (cases_lt a b) [ inl l ↦ inl (omega arith) | inr l ↦ inr (omega arith) ]

    pick : (min a b ≡ a) ⊎ (min a b ≡ b) → (Some a ≡ Some m) ⊎ (Some b ≡ Some m)
    pick (inl e) = inl (ap Some (sym e) ∙ h)
    pick (inr e) = inr (ap Some (sym e) ∙ h)

-- ## The least over the conversions that pass

module _ (p : Conversion → Bool) (f : Conversion → Option ℕ) where
  pub least_of_most : (file : List Conversion) (c : Conversion) (n : ℕ) → Contains file c → p c ≡ true → AtMost (f c) n → AtMost (least_of p f file) n
  least_of_most [] c n (k, less, is) passes le = absurd (omega arith)
  least_of_most (x ∷ file) c n (zero, less, is) passes le =
      lesser_left _ (least_of p f file) n (subst (λ v. AtMost v n) (sym (ap (λ y. cond (p y) (f y) None) is ∙ cond-true (p c) (f c) None passes)) le)
  least_of_most (x ∷ file) c n (suc k, less, is) passes le =
      lesser_right (cond (p x) (f x) None) (least_of p f file) n (least_of_most file c n (k, omega arith, is) passes le)

  pub least_of_one : (file : List Conversion) (m : ℕ) → least_of p f file ≡ Some m → (c : Conversion) × Contains file c × (p c ≡ true) × (f c ≡ Some m)
  least_of_one [] m h = absurd (cc)
  least_of_one (x ∷ file) m h = one (λ e. least_of_one file m e) (lesser_one (cond (p x) (f x) None) (least_of p f file) m h)
    where
      first : (v : Bool) → p x ≡ v → cond v (f x) None ≡ Some m → (p x ≡ true) × (f x ≡ Some m)
      first true e h = (e, h)
      first false e h = absurd (cc)

      later : (c : Conversion) × Contains file c × (p c ≡ true) × (f c ≡ Some m) → (c : Conversion) × Contains (x ∷ file) c × (p c ≡ true) × (f c ≡ Some m)
      later (c, (k, less, is), passes, gives) = (c, (suc k, omega arith, is), passes, gives)

      one : (least_of p f file ≡ Some m → (c : Conversion) × Contains file c × (p c ≡ true) × (f c ≡ Some m)) → (cond (p x) (f x) None ≡ Some m) ⊎ (least_of p f file ≡ Some m) → (c : Conversion) × Contains (x ∷ file) c × (p c ≡ true) × (f c ≡ Some m)
      one rest (inl e) = let h = first (p x) refl e in (x, (zero, omega arith, refl), h.0, h.1)
      one rest (inr e) = later (rest e)

-- Equal tests have the same least cost.
pub least_in_same : (p q : Conversion → Bool) (file : List Conversion) (row : List (Option ℕ)) → ((c : Conversion) → Contains file c → p c ≡ q c) → least_in p file row ≡ least_in q file row
least_in_same p q [] row h = refl
least_in_same p q (x ∷ file) [] h = refl
least_in_same p q (x ∷ file) (r ∷ row) h =
    ap (λ v. lesser (cond v (plus x.cost r) None) (least_in p file row)) (h x (zero, omega arith, refl))
    ∙ ap (lesser (cond (q x) (plus x.cost r) None)) (least_in_same p q file row (λ c (k, less, is). h c (suc k, omega arith, is)))

-- A row of costs that a function computes.
pub least_in_row : (p : Conversion → Bool) (h : Conversion → Option ℕ) (file : List Conversion) → least_in p file (map h file) ≡ least_of p (λ c. plus c.cost (h c)) file
least_in_row p h [] = refl
least_in_row p h (x ∷ file) = ap (lesser (cond (p x) (plus x.cost (h x)) None)) (least_in_row p h file)

-- The least cost from the positions of a type.
pub least_from : (file : List Conversion) (to media : List ℕ) (k : ℕ) → least_in (is_taken file (positions_in (sources_of file) media)) file (row_of file to k) ≡ least file to (suc k) media
unfolding least
least_from file to media k =
    least_in_same (is_taken file (positions_in (sources_of file) media)) (λ c. matches c.source media) file (row_of file to k) (taken_matches file media)
    ∙ least_in_row (λ c. matches c.source media) (λ c. least file to k c.destination) file

-- ## Walks

plus_most : (c : ℕ) (cost : Option ℕ) (n : ℕ) → AtMost cost n → AtMost (plus c cost) (c + n)
plus_most c cost n (m, is, le) = (c + m, ap (plus c) is, omega arith)

-- No walk of this number of lines costs less.
pub least_most : (file : List Conversion) (to from : List ℕ) (walk : List Conversion) → Leads file from walk to → AtMost (least file to (length walk) from) (cost_of walk)
unfolding least
least_most file to from [] h = (0, ap (λ t. cond (same t to) (Some 0) None) h ∙ ap (λ v. cond v (Some 0) None) (same-refl to), omega arith)
least_most file to from (c ∷ walk) (there, takes, leads) =
    least_of_most (λ c. matches c.source from) (λ c. plus c.cost (least file to (length walk) c.destination)) file c (c.cost + cost_of walk) there takes
    (plus_most c.cost (least file to (length walk) c.destination) (cost_of walk) (least_most file to c.destination walk leads))

-- A least cost is small.
cheap_at : (file : List Conversion) → AreCheap file → (c : Conversion) → Contains file c → c.cost ≤ 10000
cheap_at [] h c (k, less, is) = absurd (omega arith)
cheap_at (x ∷ file) h c (zero, less, is) = subst (λ y. y.cost ≤ 10000) is h.0
cheap_at (x ∷ file) h c (suc k, less, is) = cheap_at file h.1 c (k, omega arith, is)

pub least_small : (file : List Conversion) → AreCheap file → (to : List ℕ) (k : ℕ) (media : List ℕ) (m : ℕ) → least file to k media ≡ Some m → m ≤ 10000 * k
unfolding least
least_small file cheap to zero media m h = none (same media to) h
  where
    none : (v : Bool) → cond v (Some 0) None ≡ Some m → m ≤ 10000 * 0
    none true h = let e : 0 ≡ m = cc in omega arith
    none false h = absurd (cc)
least_small file cheap to (suc k) media m h = step (λ c n e. least_small file cheap to k c.destination n e) (least_of_one (λ c. matches c.source media) (λ c. plus c.cost (least file to k c.destination)) file m h)
  where
    sum : (c : Conversion) → c.cost ≤ 10000 → (rest : Option ℕ) → ((n : ℕ) → rest ≡ Some n → n ≤ 10000 * k) → plus c.cost rest ≡ Some m → m ≤ 10000 * suc k
    sum c le None h e = absurd (cc)
    sum c le (Some n) h e = let s : c.cost + n ≡ m = cc in let b = h n refl in omega arith

    step : ((c : Conversion) (n : ℕ) → least file to k c.destination ≡ Some n → n ≤ 10000 * k) → (c : Conversion) × Contains file c × (matches c.source media ≡ true) × (plus c.cost (least file to k c.destination) ≡ Some m) → m ≤ 10000 * suc k
    step below (c, there, takes, is) = sum c (cheap_at file cheap c there) (least file to k c.destination) (below c) is
