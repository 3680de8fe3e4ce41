-- The areas of an opened spool as their callers see them.
use Rattle.std.specs.Prelude.{◌≡◌, ℕ, List, Bool, Option, IsSome}
use Rattle.spool_disk.specs.Disk.{DiskView, IsSynced}
use Rattle.spool_areas.specs.Header.{header_at, epoch_of, version_of}
use Rattle.spool_areas.specs.Payloads.{HasPayloads, gate_after}

-- The disk, the base and end of the current area, its epoch, its version, the place of its next record, the closed gate in
-- front of the staged records, if there are any, and whether the device has failed.
pub record Current (D : Type 0) : Type 0 where
  pub disk : D
  pub base : ℕ
  pub end : ℕ
  pub epoch : ℕ
  pub version : ℕ
  pub gate : ℕ
  pub held : Option ℕ
  pub dead : Bool

-- The disk reports its bytes and nothing is unsynced. The current area of each of its images has this epoch and version
-- and these payloads and no others, followed by the closed gate.
pub record KeepsPayloads {D : Type 0} (v : DiskView D) (areas : Current D) (payloads : List (List ℕ)) : Type 0 where
  pub tells : IsSome (v.bytes areas.disk)
  pub synced : IsSynced v areas.disk
  pub each : (c : List ℕ) → v.image areas.disk c → HasPayloads areas.base payloads c
  pub epoch : (c : List ℕ) → v.image areas.disk c → epoch_of (header_at areas.base c) ≡ areas.epoch
  pub version : (c : List ℕ) → v.image areas.disk c → version_of (header_at areas.base c) ≡ areas.version
  pub gate_at : areas.gate ≡ gate_after areas.base payloads
