-- Examples of a device's bytes: entries of a journal, and the areas of a spool.
use Rattle.std.specs.Prelude.{◌≡◌, ℕ, ◌+◌, true, false, List, [], ◌∷◌, ◌++◌, map, codes, nat_lt, Ok, Err, None}
use Rattle.spool_disk.specs.Disk.{overwritten}
use Rattle.gate_journal.specs.declared.entry.Found.TheVariants.{Entry, End, Damaged}
use Rattle.gate_journal.specs.FoundEntries.{entry_at}
use Rattle.spool_areas.specs.declared.fault.OpenFault.TheVariants.{NotASpool, Damaged as DamagedHeader}
use Rattle.spool_areas.specs.declared.fault.AreaFault.TheVariants as area_faults
use Rattle.spool_areas.specs.Header.{half, least_area, current_area}
use Rattle.spool_areas.specs.Making.{empty_spool}
use Rattle.spool_areas.specs.Current.{Current}
use Rattle.spool_areas.specs.Checkpoint.{plan_of, last_epoch}
use Rattle.decision_examples.specs.HexBytes.{hex, times}

-- The payloads 0A 00 00 00 01 and 0F.
abbrev pub two_entries : List ℕ
two_entries = hex (codes "A5 00 00 00 05 0A 00 00 00 01 A5 00 00 00 01 0F 00 00 00 00")

-- An area of twenty bytes: its entries, and a following record that exceeds it.
abbrev pub JournalRows : Type 0
JournalRows = map (entry_at two_entries 20) (0 ∷ 10 ∷ 16 ∷ []) ≡ Entry 5 5 ∷ Entry 15 1 ∷ End ∷ []

abbrev pub DamagedRows : Type 0
DamagedRows = entry_at (overwritten 16 (165 ∷ []) two_entries) 20 16 ≡ Damaged

-- A crash left the gate of the second record closed.
abbrev pub ClosedRows : Type 0
ClosedRows = entry_at (overwritten 10 (0 ∷ []) two_entries) 20 10 ≡ End

-- Two areas of 23 bytes are the least.
abbrev pub LeastAreaRows : Type 0
LeastAreaRows = map (λ size. nat_lt (half size) least_area) (45 ∷ 46 ∷ []) ≡ true ∷ false ∷ []

-- Open headers of version 2.
abbrev pub epoch_1 : List ℕ
epoch_1 = hex (codes "A5 02 00 00 00 00 00 00 00 01 00 00 00 00 00 00")

abbrev pub epoch_2 : List ℕ
epoch_2 = hex (codes "A5 02 00 00 00 00 00 00 00 02 00 00 00 00 00 00")

-- A header of version 1.
abbrev pub first_version : List ℕ
first_version = hex (codes "A5 01 00 00 00 00 00 00 00 01 00 00 00 00 00 00")

-- A header after a closed gate.
abbrev pub closed : List ℕ
closed = hex (codes "00 01 00 00 00 00 00 00 00 03 00 00 00 00 00 00")

abbrev pub MadeRows : Type 0
MadeRows = empty_spool (times 46 0) ≡ epoch_1 ++ times 30 0

-- Open gates are closed: a header in each area, and a gate in the first.
abbrev pub MadeAnewRows : Type 0
MadeAnewRows = empty_spool (overwritten 16 (165 ∷ []) (overwritten 23 (hex (codes "A5 01 00 00 00 00 00 00 00 09")) (times 46 0)))
    ≡ epoch_1 ++ times 7 0 ++ hex (codes "00 01 00 00 00 00 00 00 00 09") ++ times 13 0

-- A device of two areas of 99 bytes with these headers.
abbrev pub with_headers : List ℕ → List ℕ → List ℕ
with_headers first second = overwritten 99 second (overwritten 0 first (times 198 0))

-- The higher epoch wins, and a device without a single newest header is no spool.
abbrev pub AreaRows : Type 0
AreaRows = map current_area (
    with_headers epoch_1 closed ∷ with_headers epoch_1 epoch_2 ∷ with_headers epoch_2 epoch_1
    ∷ with_headers closed closed ∷ with_headers epoch_2 epoch_2 ∷ times 45 0 ∷ [])
    ≡ Ok 0 ∷ Ok 99 ∷ Ok 0 ∷ Err NotASpool ∷ Err NotASpool ∷ Err NotASpool ∷ []

-- An area of version 1 is read, whatever the version of the other area, and the epochs decide between them.
abbrev pub VersionRows : Type 0
VersionRows = map current_area (
    with_headers first_version closed ∷ with_headers first_version epoch_2
    ∷ with_headers epoch_2 first_version ∷ with_headers first_version epoch_1 ∷ [])
    ≡ Ok 0 ∷ Ok 99 ∷ Ok 0 ∷ Err NotASpool ∷ []

-- An unknown version, a byte after the epoch, and damage of both areas.
abbrev pub HeaderFaultRows : Type 0
HeaderFaultRows = map current_area (
    overwritten 1 (0 ∷ []) (with_headers epoch_1 closed)
    ∷ overwritten 1 (3 ∷ []) (with_headers epoch_1 closed)
    ∷ overwritten 114 (1 ∷ []) (with_headers epoch_1 epoch_2)
    ∷ overwritten 1 (3 ∷ []) (overwritten 100 (3 ∷ []) (with_headers epoch_1 epoch_2))
    ∷ [])
    ≡ Err (DamagedHeader 0) ∷ Err (DamagedHeader 0) ∷ Err (DamagedHeader 99) ∷ Err (DamagedHeader 0) ∷ []

-- A spool at this epoch with this current area. Its disk does not matter.
abbrev pub areas_at : ℕ → ℕ → ℕ → Current ℕ
areas_at base end epoch = record { disk = 0; base = base; end = end; epoch = epoch; version = 2; gate = base + 16; held = None; dead = false }

-- In an area of 131 bytes the rows leave room for one Reopen, in one of 130 they do not. Then the place of the rows, in both areas in turn.
abbrev pub PlanRows : Type 0
PlanRows = plan_of (areas_at 0 131 1) (13 ∷ 31 ∷ 49 ∷ []) ∷ plan_of (areas_at 0 130 1) (13 ∷ 31 ∷ 49 ∷ [])
    ∷ plan_of (areas_at 0 99 1) (13 ∷ []) ∷ plan_of (areas_at 99 198 2) []
    ∷ plan_of (areas_at 0 99 last_epoch) [] ∷ plan_of (areas_at 0 99 last_epoch) (13 ∷ []) ∷ []
    ≡ Ok 147 ∷ Err area_faults.Full ∷ Ok 115 ∷ Ok 16 ∷ Err area_faults.EpochEnd ∷ Err area_faults.EpochEnd ∷ []
