-- The places of the payloads of an area.
use Rattle.std.specs.Prelude.{◌≡◌, ℕ, ◌+◌, List, [], ◌∷◌, map, slice_range, Option, None, Some, ⊤}
use Rattle.gate_journal.specs.Entries.{HasEntries, HasFirst}
use Rattle.gate_journal.specs.FoundEntries.{entry_at}
use Rattle.gate_journal.specs.declared.entry.Found.TheVariants as found
use Rattle.extents.specs.declared.extent.Extent.{Extent}
use Rattle.spool_areas.specs.declared.fault.OpenFault.{OpenFault}
use Rattle.spool_areas.specs.declared.fault.OpenFault.TheVariants.{NotASpool, Damaged, Memory, Disk}
use Rattle.spool_areas.specs.Header.{current_area}
use Rattle.spool_areas.specs.Payloads.{HasPayloads, IsTornAfter}
use Rattle.std.specs.Prelude.{Err}

-- The bytes of an extent.
abbrev pub bytes_of : List ℕ → Extent → List ℕ
bytes_of bytes x = slice_range bytes x.place (x.place + x.len)

abbrev pub payloads_at : List ℕ → List Extent → List (List ℕ)
payloads_at bytes extents = map (bytes_of bytes) extents

-- From a gate on, each payload is five bytes after its gate, and the next gate follows the payload. The last gate is at
-- `end`.
abbrev pub Follow : ℕ → List Extent → ℕ → Type 0
Follow gate [] end = gate ≡ end
Follow gate (x ∷ xs) end = (x.place ≡ gate + 5) × Follow (x.place + x.len) xs end

-- The records from the first gate on are those of these payloads. A closed gate follows them, or the gate of a record
-- that exceeds the area before `end`.
abbrev pub HasRecords : ℕ → ℕ → ℕ → List (List ℕ) → List ℕ → Option ℕ → Type 0
HasRecords first end gate payloads bytes None = HasFirst first gate payloads bytes × HasEntries first payloads bytes
HasRecords first end gate payloads bytes (Some told) = HasFirst first gate payloads bytes × (entry_at bytes end gate ≡ found.Damaged)

-- The gate after the payloads is closed, or is that of a record that exceeds the area.
abbrev pub EndsSo : ℕ → List (List ℕ) → List ℕ → Option ℕ → Type 0
EndsSo base payloads bytes None = HasPayloads base payloads bytes
EndsSo base payloads bytes (Some gate) = IsTornAfter base payloads bytes

-- The gate of a torn record, if any, is the one after the payloads.
abbrev pub IsGate : ℕ → Option ℕ → Type 0
IsGate gate None = ⊤
IsGate gate (Some told) = told ≡ gate

-- The error is that of the headers.
abbrev pub IsHeaderFault : List ℕ → OpenFault → Type 0
IsHeaderFault bytes NotASpool = current_area bytes ≡ Err NotASpool
IsHeaderFault bytes (Damaged place) = current_area bytes ≡ Err (Damaged place)
IsHeaderFault bytes Memory = ⊤
IsHeaderFault bytes Disk = ⊤
