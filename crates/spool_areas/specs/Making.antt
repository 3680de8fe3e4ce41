-- Making an empty spool.
use Rattle.std.specs.Prelude.{◌≡◌, ◌⊎◌, ℕ, List, [], ◌∷◌, ◌++◌, length, Err}
use Rattle.spool_disk.specs.Disk.{DiskView, overwritten, IsOldOutside, LeavesOnly}
use Rattle.gate_journal.specs.Entries.{open_gate}
use Rattle.spool_areas.specs.declared.fault.OpenFault.TheVariants.{NotASpool}
use Rattle.spool_areas.specs.Header.{half, header_behind_gate, first_epoch, newest_version, current_area}
use Rattle.spool_areas.specs.Payloads.{HasVersionAndPayloads}

-- The first bytes of area 0: an open header of the newest version and the first epoch, and the closed gate of a journal
-- without records.
abbrev pub first_bytes : List ℕ
first_bytes = open_gate ∷ (header_behind_gate first_epoch ++ 0 ∷ [])

-- The bytes after `make`: those of area 0, a closed gate at the header of area 1, and all others unchanged.
abbrev pub empty_spool : List ℕ → List ℕ
empty_spool old = overwritten 0 first_bytes (overwritten (half (length old)) (0 ∷ []) old)

-- An old image, with any byte at each of the two gates.
abbrev pub IsOldButGates : (List ℕ → Type 0) → ℕ → List ℕ → Type 0
IsOldButGates image second c = IsOldOutside (IsOldOutside image 0 1) second 1 c

-- No spool, or one of the newest version without payloads.
abbrev pub IsNoSpoolOrEmpty : List ℕ → Type 0
IsNoSpoolOrEmpty c = (current_area c ≡ Err NotASpool) ⊎ HasVersionAndPayloads 0 newest_version [] c

-- The gates of both headers are closed first. A crash leaves an old image with any byte at these gates, and, if the
-- device does not fail before they are closed, from then on bytes that satisfy P.
abbrev pub ClosesFirst : {D : Type 0} → DiskView D → D → D → (List ℕ → Type 0) → Type 0
ClosesFirst {D} v old new P =
    LeavesOnly v old new (IsOldButGates (v.image old) (half (v.size old)))
    ⊎ ((closed : D) × LeavesOnly v old closed (IsOldButGates (v.image old) (half (v.size old))) × LeavesOnly v closed new P)
