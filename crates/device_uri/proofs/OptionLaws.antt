-- The pairs of a query, in order.
use Rattle.std.proofs.Common.{ℕ, ◌+◌, Bool, ◌||◌, List, length, nat_lt}
use Rattle.std.specs.List.{list_any}
use Rattle.device_uri.specs.UriOptions.{has_no_name}

-- Whether n pairs with names followed by these are more than 64, or one of these has no name.
abbrev pub is_bad_after : ℕ → List (List ℕ × List ℕ) → Bool
is_bad_after n pairs = nat_lt 64 (n + length pairs) || list_any has_no_name pairs
