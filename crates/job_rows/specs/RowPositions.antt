-- The position of a key among rows in ascending order of their keys, or the position at which it would be inserted.
use Rattle.std.specs.Prelude.{◌≡◌, ℕ, ◌<◌, ◌≤◌, List, length, slice_index_or}
use Rattle.std.specs.declared.cmp.Ordering.{Ordering}
use Rattle.std.specs.declared.cmp.Ordering.TheVariants.{Less, Equal, Greater}

-- The row at position i has the key.
pub record IsPosition {K Y : Type 0} (R : K → K → Ordering) (key : Y → K) (ys : List Y) (k : K) (i : ℕ) : Type 0 where
  pub in_range : i < length ys
  pub same : (d : Y) → R (key (slice_index_or ys i d)) k ≡ Equal

-- The key would be inserted at position i: smaller keys are before it, and greater ones from it on.
pub record IsGap {K Y : Type 0} (R : K → K → Ordering) (key : Y → K) (ys : List Y) (k : K) (i : ℕ) : Type 0 where
  pub in_range : i ≤ length ys
  pub before : (j : ℕ) (d : Y) → j < i → R (key (slice_index_or ys j d)) k ≡ Less
  pub behind : (j : ℕ) (d : Y) → i ≤ j → j < length ys → R (key (slice_index_or ys j d)) k ≡ Greater
