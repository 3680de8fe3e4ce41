-- The definition of images: the bytes that a crash may leave on a device.
use Rattle.std.specs.Prelude.{◌≡◌, ◌⊎◌, ◌↔◌, ◌<◌, ◌≤◌, ℕ, ◌+◌, List, Bool, false, IsTrue, Some, length, slice_get, slice_index_or}

-- R, the bytes that a read returns, and W, the unsynced offsets, which were written since the last sync that returned Ok. `unsynced` states
-- for each offset whether it is in W.
pub record Device : Type 0 where
  pub bytes : List ℕ
  pub unsynced : List Bool

abbrev pub IsUnsynced : Device → ℕ → Type 0
IsUnsynced device k = IsTrue (slice_index_or device.unsynced k false)

-- A write, also one that fails, adds its range to W.
abbrev pub AddsRange : ℕ → ℕ → Device → Device → Type 0
AddsRange at n old new = (k : ℕ) → IsUnsynced new k ↔ (IsUnsynced old k ⊎ ((at ≤ k) × (k < at + n)))

-- A sync that returns Ok empties W.
abbrev pub HasNoneUnsynced : Device → Type 0
HasNoneUnsynced device = (k : ℕ) → ¬ (IsUnsynced device k)

abbrev pub AreBytes : List ℕ → Type 0
AreBytes bytes = (k : ℕ) → slice_index_or bytes k 0 < 256

-- An image is as long as the device. At each offset it has the byte that a read returns or, if the offset is unsynced, any byte.
pub record IsImage (device : Device) (c : List ℕ) : Type 0 where
  pub size : length c ≡ length device.bytes
  pub each : (k : ℕ) → (slice_index_or c k 0 ≡ slice_index_or device.bytes k 0) ⊎ (IsUnsynced device k × (slice_index_or c k 0 < 256))

-- The images since a moment: those of the device at that moment or a later one. Moments are counted from 0.
abbrev pub IsImageSince : List Device → ℕ → List ℕ → Type 0
IsImageSince moments t c = (k : ℕ) × (device : Device) × (t ≤ k) × (slice_get moments k ≡ Some device) × IsImage device c
