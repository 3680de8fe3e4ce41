-- Staged records: they are written, but their first gate is closed, so they are entries of no image.
use Rattle.std.specs.Prelude.{◌≡◌, ◌⊎◌, ◌<◌, ℕ, ◌+◌, List, [], ◌∷◌, ◌++◌, length, Option, None, Some, IsSome}
use Rattle.std.specs.Option.{ForSome, option_map}
use Rattle.spool_disk.specs.Disk.{DiskView, overwritten}
use Rattle.gate_journal.specs.Entries.{open_gate, records, HasEntries}

-- The closed gate in front of the staged records. If nothing is staged, it is the gate of the next record.
abbrev pub gate_of : Option ℕ → ℕ → ℕ
gate_of None place = place
gate_of (Some gate) place = gate

-- The held gate, if there is one, is before this offset.
abbrev pub IsBefore : Option ℕ → ℕ → Type 0
IsBefore held place = ForSome held (λ gate. gate < place)

-- The bytes that a disk reports, with the held gate open.
abbrev pub shown : Option ℕ → Option (List ℕ) → Option (List ℕ)
shown None told = told
shown (Some gate) told = option_map (overwritten gate (open_gate ∷ [])) told

-- Each image of the disk has these entries and no others. The staged entries are written after them: with the held gate open, the bytes
-- that the disk reports have both. The next record goes after all of them.
pub record KeepsStaged {D : Type 0} (v : DiskView D) (disk : D) (base place : ℕ) (held : Option ℕ) (payloads staged : List (List ℕ)) : Type 0 where
  pub tells : IsSome (v.bytes disk)
  pub each : (c : List ℕ) → v.image disk c → HasEntries base payloads c
  pub behind : (r : List ℕ) → shown held (v.bytes disk) ≡ Some r → HasEntries base (payloads ++ staged) r
  pub gate_at : gate_of held place ≡ base + length (records payloads)
  pub place_at : place ≡ base + length (records (payloads ++ staged))

-- These entries, or these and all staged ones.
abbrev pub IsBeforeOrAll : ℕ → List (List ℕ) → List (List ℕ) → List ℕ → Type 0
IsBeforeOrAll base payloads staged bytes = HasEntries base payloads bytes ⊎ HasEntries base (payloads ++ staged) bytes
