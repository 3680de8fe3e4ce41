-- How a runner stores its slots: in a slab, with a map from each job to its slot's key. No caller needs this.
use Rattle.std.specs.Prelude.{◌≡◌, ℕ, List, map, Option, Some, IsSome, unwrap_or}
use Rattle.std.specs.BTreeMap.{is_at}
use Rattle.std.specs.FinMap as finite
use Rattle.std.specs.Map.{lookup}
use Rattle.std.specs.Option.{option_map}
use Rattle.std.specs.Ordering.{nat_cmp}
use Rattle.slab.specs.Slab.{Slab, get}
use Rattle.child_pipeline.specs.StageSlots.{Slots, numbered, begun}
use Rattle.child_pipeline.specs.declared.runner.Slot.{Slot}

-- The slot under a key.
abbrev pub slot_at : {T : Type 0} → (T → ℕ) → Slab (Slot T) → ℕ → Slot ℕ
slot_at number slab key = unwrap_or (option_map (numbered number) (get slab key)) (begun 0 0)

-- The slots of these jobs, given the key of each slot.
abbrev pub slots_of : {T : Type 0} → (T → ℕ) → List (ℕ × ℕ) → Slab (Slot T) → Slots
slots_of number keys slab = finite.from_entries (map (λ e. (e.0, slot_at number slab e.1)) keys)

-- The key of a job's slot.
abbrev pub key_in : List (ℕ × ℕ) → ℕ → Option ℕ
key_in keys j = lookup (is_at (nat_cmp j)) keys

-- Each key has a slot and belongs to one job only. Each slot belongs to a job, so no slot is forgotten.
pub record AreKept {T : Type 0} (keys : List (ℕ × ℕ)) (slab : Slab (Slot T)) : Type 0 where
  pub there : (j k : ℕ) → key_in keys j ≡ Some k → IsSome (get slab k)
  pub apart : (i j k : ℕ) → key_in keys i ≡ Some k → key_in keys j ≡ Some k → i ≡ j
  pub owned : (k : ℕ) → IsSome (get slab k) → (j : ℕ) × (key_in keys j ≡ Some k)
