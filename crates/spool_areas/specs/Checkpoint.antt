-- The change over to the other area.
use Rattle.std.specs.Prelude.{◌≡◌, ◌⊎◌, ℕ, ◌+◌, ◌-◌, ◌<◌, List, [], ◌∷◌, Bool, true, false, ◌&&◌, Some, IsSome, Result, Ok, Err, length, take, drop, slice_index_or, nat_le, ◌==◌, if◌then◌else◌}
use Rattle.spool_disk.specs.Disk.{DiskView, IsOldOutside, IsSynced, LeavesOnly}
use Rattle.gate_journal.specs.Appends.{kept_room}
use Rattle.gate_journal.specs.Entries.{open_gate}
use Rattle.spool_areas.specs.declared.fault.AreaFault.{AreaFault}
use Rattle.spool_areas.specs.declared.fault.AreaFault.TheVariants.{Dead, EpochEnd, Full}
use Rattle.spool_areas.specs.Header.{header_len, header_at, header_behind_gate, newest_version, is_open, epoch_of}
use Rattle.spool_areas.specs.Payloads.{HasVersionAndPayloads, gate_after}
use Rattle.spool_areas.specs.Current.{Current}

-- The greatest epoch.
abbrev pub last_epoch : ℕ
last_epoch = 18446744073709551615

-- The base of the other area, by the base of the second area and the base of the current one.
abbrev pub other_of : ℕ → ℕ → ℕ
other_of second base = if base == 0 then second else 0

abbrev pub area_len : {D : Type 0} → Current D → ℕ
area_len a = a.end - a.base

abbrev pub other_base : {D : Type 0} → Current D → ℕ
other_base a = other_of (area_len a) a.base

-- Payloads of these lengths, appended in order from a gate on, all fit: each record and its next gate leave six more
-- bytes.
abbrev pub has_room : ℕ → ℕ → List ℕ → Bool
has_room end gate [] = true
has_room end gate (n ∷ ns) = nat_le (gate + 5 + n + kept_room) end && has_room end (gate + 5 + n) ns

-- The first gate of the other area, or the reason why rows of these lengths cannot be written there. The checks are in
-- this order: dead, the last epoch, full.
abbrev pub plan_of : {D : Type 0} → Current D → List ℕ → Result ℕ AreaFault
plan_of a lengths =
    if a.dead then Err Dead
    else if a.epoch == last_epoch then Err EpochEnd
    else if has_room (other_base a + area_len a) (other_base a + header_len) lengths then Ok (other_base a + header_len)
    else Err Full

-- A header of this epoch and the newest version is at `other`, with any gate.
pub record HasHeader (other epoch : ℕ) (bytes : List ℕ) : Type 0 where
  pub behind : take 15 (drop (other + 1) bytes) ≡ header_behind_gate epoch

-- The header at `other` is closed, or open with a lower epoch than the one at `base`.
abbrev pub IsClosedOrOlder : ℕ → ℕ → List ℕ → Type 0
IsClosedOrOlder base other bytes =
    (is_open (header_at other bytes) ≡ false) ⊎ (epoch_of (header_at other bytes) < epoch_of (header_at base bytes))

-- The old payloads in the old area, in its version, or the new ones in the new area, in the newest version.
abbrev pub HasOldOrNew : ℕ → ℕ → List (List ℕ) → ℕ → List (List ℕ) → List ℕ → Type 0
HasOldOrNew base version old other new bytes =
    HasVersionAndPayloads base version old bytes ⊎ HasVersionAndPayloads other newest_version new bytes

-- The images of a crash while a gate is being closed: nothing has changed, or the gate was open and is any byte.
abbrev pub IsClosing : {D : Type 0} → DiskView D → D → ℕ → List ℕ → Type 0
IsClosing v disk at c = v.image disk c ⊎ (IsOldOutside (v.image disk) at 1 c × ((r : List ℕ) → v.bytes disk ≡ Some r → slice_index_or r at 0 ≡ open_gate))

-- Of the two areas of this length the one at `base` is current. Nothing is unsynced, and each image has these payloads
-- there, with this epoch and version.
pub record Stands {D : Type 0} (v : DiskView D) (disk : D) (len base other epoch version : ℕ) (payloads : List (List ℕ)) : Type 0 where
  pub two : ((base ≡ 0) × (other ≡ len)) ⊎ ((base ≡ len) × (other ≡ 0))
  pub tells : IsSome (v.bytes disk)
  pub synced : IsSynced v disk
  pub each : (c : List ℕ) → v.image disk c → HasVersionAndPayloads base version payloads c
  pub epoch_is : (c : List ℕ) → v.image disk c → epoch_of (header_at base c) ≡ epoch

-- The same after the change over, in the newest version, with the gate after the rows.
pub record StandsNew {D : Type 0} (v : DiskView D) (disk : D) (base epoch gate : ℕ) (payloads : List (List ℕ)) : Type 0 where
  pub tells : IsSome (v.bytes disk)
  pub each : (c : List ℕ) → v.image disk c → HasVersionAndPayloads base newest_version payloads c
  pub epoch_is : (c : List ℕ) → v.image disk c → epoch_of (header_at base c) ≡ epoch
  pub gate_at : gate ≡ gate_after base payloads

-- At some moment the disk was filled: a crash before it leaves the old payloads in their version, and a crash after it
-- leaves these, or the new ones in the newest version.
abbrev pub ChangesOver : {D : Type 0} → DiskView D → D → D → ℕ → ℕ → List (List ℕ) → ℕ → List (List ℕ) → Type 0
ChangesOver {D} v before after base version old other new =
    (filled : D) × LeavesOnly v before filled (HasVersionAndPayloads base version old) × LeavesOnly v filled after (HasOldOrNew base version old other new)

-- The other area is the current one now, with the next epoch and the newest version, and its gate is after these rows.
pub record IsChanged {D : Type 0} (old : Current D) (rows : List (List ℕ)) (new : Current D) : Type 0 where
  pub base : new.base ≡ other_base old
  pub end : new.end ≡ other_base old + area_len old
  pub epoch : new.epoch ≡ old.epoch + 1
  pub version : new.version ≡ newest_version
  pub gate : new.gate ≡ gate_after (other_base old) rows
