-- Lists of items in ascending order of their keys. Each key is a text.
use Rattle.std.specs.Prelude.{◌≡◌, ℕ, ◌<◌, ◌≤◌, Bool, true, ◌&&◌, ◌||◌, cond, nat_lt, nat_eq, List, [], ◌∷◌, length, slice_index_or}
use Rattle.std.specs.declared.cmp.Ordering.TheVariants.{Less, Greater}
use Rattle.std.specs.List.{list_any, list_all}
use Rattle.std.specs.Ordering.{nat_cmp, is_lt}
use Rattle.std.specs.Cmp.Lexicographic.{slice_cmp, pointwise}
use Rattle.std.specs.FinMap.Entries.{by_order}

-- The greatest number of reasons, and of attributes, of a queue.
abbrev pub most_kept : ℕ
most_kept = 64

-- Each key is below those after it, compared byte by byte. So each key occurs once.
abbrev pub is_ascending : {Y : Type 0} → (Y → List ℕ) → List Y → Bool
is_ascending key [] = true
is_ascending key (y ∷ ys) = list_all (λ z. is_lt (slice_cmp nat_cmp (key y) (key z))) ys && is_ascending key ys

-- An item has this key.
abbrev pub has_key : {Y : Type 0} → (Y → List ℕ) → List ℕ → List Y → Bool
has_key key k ys = list_any (λ y. pointwise nat_eq (key y) k) ys

-- The list with an item inserted in order. It replaces an item of the same key.
abbrev pub with_item : {Y : Type 0} → (Y → List ℕ) → Y → List Y → List Y
with_item key y [] = y ∷ []
with_item key y (z ∷ zs) = by_order (slice_cmp nat_cmp (key y) (key z)) (y ∷ z ∷ zs) (y ∷ zs) (z ∷ with_item key y zs)

-- The same, but if the list is full, an item with a new key is dropped.
abbrev pub with_kept : {Y : Type 0} → (Y → List ℕ) → Y → List Y → List Y
with_kept key y ys = cond (has_key key (key y) ys || nat_lt (length ys) most_kept) (with_item key y ys) ys

-- The item at position i has the key.
pub record IsPosition {Y : Type 0} (key : Y → List ℕ) (ys : List Y) (k : List ℕ) (i : ℕ) : Type 0 where
  pub in_range : i < length ys
  pub same : (d : Y) → key (slice_index_or ys i d) ≡ k

-- An item of this key would be inserted at position i: smaller keys are before it, and greater ones from it on.
pub record IsGap {Y : Type 0} (key : Y → List ℕ) (ys : List Y) (k : List ℕ) (i : ℕ) : Type 0 where
  pub in_range : i ≤ length ys
  pub before : (j : ℕ) (d : Y) → j < i → slice_cmp nat_cmp (key (slice_index_or ys j d)) k ≡ Less
  pub behind : (j : ℕ) (d : Y) → i ≤ j → j < length ys → slice_cmp nat_cmp (key (slice_index_or ys j d)) k ≡ Greater
