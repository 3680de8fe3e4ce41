-- Walks over the conversions of a file, and the best of them.
use Rattle.std.specs.Prelude.{ℕ, ◌+◌, ◌≡◌, ◌≤◌, Bool, true, false, ◌||◌, ◌&&◌, nat_lt, ◌==◌, IsTrue, List, [], ◌∷◌, length, map}
use Rattle.std.specs.List.{Contains}
use Rattle.mime_costs.specs.Conversions.{matches}
use Rattle.mime_costs.specs.declared.conversion.Conversion.{Conversion}

-- Conversions of the file from one type to another: each accepts the type reached so far, and its destination is the next.
abbrev pub Leads : List Conversion → List ℕ → List Conversion → List ℕ → Type 0
Leads file from [] to = from ≡ to
Leads file from (c ∷ walk) to = Contains file c × IsTrue (matches c.source from) × Leads file c.destination walk to

-- The maximum number of lines of a walk.
abbrev pub most_lines : ℕ
most_lines = 15

pub record IsWalk (file : List Conversion) (from to : List ℕ) (walk : List Conversion) : Type 0 where
  pub leads : Leads file from walk to
  pub short : length walk ≤ most_lines

abbrev pub cost_of : List Conversion → ℕ
cost_of [] = 0
cost_of (c ∷ walk) = c.cost + cost_of walk

-- The criteria for comparing walks.
pub record Worth : Type 0 where
  pub cost : ℕ
  pub lines : List ℕ

abbrev pub line_of : Conversion → ℕ
line_of c = c.line

abbrev pub worth_of : List Conversion → Worth
worth_of walk = record { cost = cost_of walk; lines = map line_of walk }

-- The lexicographically smaller list.
abbrev pub is_before : List ℕ → List ℕ → Bool
is_before lines [] = false
is_before [] (m ∷ others) = true
is_before (n ∷ lines) (m ∷ others) = nat_lt n m || (n == m && is_before lines others)

-- The better walk: of lower cost, then of fewer lines, then of the smaller list of line numbers.
abbrev pub beats : Worth → Worth → Bool
beats a b = nat_lt a.cost b.cost || (a.cost == b.cost && (nat_lt (length a.lines) (length b.lines) || (length a.lines == length b.lines && is_before a.lines b.lines)))

-- Such a walk exists.
abbrev pub IsReached : List Conversion → List ℕ → List ℕ → Worth → Type 0
IsReached file from to worth = (walk : List Conversion) × IsWalk file from to walk × (worth_of walk ≡ worth)

-- No walk is better.
abbrev pub IsLeast : List Conversion → List ℕ → List ℕ → Worth → Type 0
IsLeast file from to worth = (walk : List Conversion) → IsWalk file from to walk → beats (worth_of walk) worth ≡ false

-- No walk exists.
abbrev pub IsApart : List Conversion → List ℕ → List ℕ → Type 0
IsApart file from to = (walk : List Conversion) → IsWalk file from to walk → ⊥
