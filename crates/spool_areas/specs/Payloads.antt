-- The payloads of the current area.
use Rattle.std.specs.Prelude.{◌≡◌, ◌⊎◌, ◌<◌, ℕ, ◌+◌, List, [], ◌∷◌, ◌++◌, length, Ok}
use Rattle.gate_journal.specs.Entries.{HasEntries, HasFirst, records}
use Rattle.gate_journal.specs.FoundEntries.{entry_at}
use Rattle.gate_journal.specs.declared.entry.Found.TheVariants as found
use Rattle.spool_areas.specs.Header.{half, header_len, header_at, version_of, current_area}

-- The place of the gate after the records of these payloads, in the area that begins at `base`.
abbrev pub gate_after : ℕ → List (List ℕ) → ℕ
gate_after base payloads = base + header_len + length (records payloads)

-- The current area begins at `base`. Its records up to the first closed gate are those of these payloads, and that gate
-- is in the area.
pub record HasPayloads (base : ℕ) (payloads : List (List ℕ)) (bytes : List ℕ) : Type 0 where
  pub current : current_area bytes ≡ Ok base
  pub entries : HasEntries (base + header_len) payloads bytes
  pub within : gate_after base payloads < base + half (length bytes)

-- The current area begins at `base`, has these payloads, and is of this version.
pub record HasVersionAndPayloads (base version : ℕ) (payloads : List (List ℕ)) (bytes : List ℕ) : Type 0 where
  pub area : HasPayloads base payloads bytes
  pub version_is : version_of (header_at base bytes) ≡ version

-- These payloads, or these and this one, in the same version.
abbrev pub HasBeforeOrAfter : ℕ → ℕ → List (List ℕ) → List ℕ → List ℕ → Type 0
HasBeforeOrAfter base version payloads payload bytes =
    HasVersionAndPayloads base version payloads bytes ⊎ HasVersionAndPayloads base version (payloads ++ payload ∷ []) bytes

-- The current area begins at `base`. Its first records are those of these payloads, and the gate after them is in the
-- area, open or closed.
pub record HasFirstPayloads (base : ℕ) (payloads : List (List ℕ)) (bytes : List ℕ) : Type 0 where
  pub current : current_area bytes ≡ Ok base
  pub first : HasFirst (base + header_len) (gate_after base payloads) payloads bytes
  pub within : gate_after base payloads < base + half (length bytes)

-- The open gate of a record that exceeds the area follows these payloads. The byte after its payload counts with the
-- record.
pub record IsTornAfter (base : ℕ) (payloads : List (List ℕ)) (bytes : List ℕ) : Type 0 where
  pub first : HasFirstPayloads base payloads bytes
  pub torn : entry_at bytes (base + half (length bytes)) (gate_after base payloads) ≡ found.Damaged
