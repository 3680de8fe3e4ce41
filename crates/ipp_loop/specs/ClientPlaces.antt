-- The places of the clients, by their keys.
use Rattle.std.specs.Prelude.{◌≡◌, ◌≢◌, ℕ, List, Option, None, get_or}

-- Only the client with this key changes or leaves.
abbrev pub KeepsOthers : {A : Type 0} → ℕ → List (Option A) → List (Option A) → Type 0
KeepsOthers key old new = (other : ℕ) → other ≢ key → get_or new other None ≡ get_or old other None
