-- The costs of walks, which exist only if the walk does.
use Rattle.std.specs.Prelude.{ℕ, ◌+◌, ◌≤◌, min, Option, None, Some, IfSome}

-- The lower of the costs that exist.
abbrev pub lesser : Option ℕ → Option ℕ → Option ℕ
lesser None b = b
lesser (Some a) None = Some a
lesser (Some a) (Some b) = Some (min a b)

-- The cost plus c, if it exists.
abbrev pub plus : ℕ → Option ℕ → Option ℕ
plus c None = None
plus c (Some n) = Some (c + n)

-- Far from any limit of a sum.
abbrev pub IsSmall : Option ℕ → Type 0
IsSmall cost = IfSome cost (λ n. n ≤ 150000)
