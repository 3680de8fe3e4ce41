-- The results and effects of staging a record in the current area, and of settling.
use Rattle.std.specs.Prelude.{◌≡◌, ◌⊎◌, ◌<◌, ℕ, ◌+◌, List, [], ◌∷◌, ◌++◌, false, Option, None, Result, OnOk, IsErrOf}
use Rattle.spool_disk.specs.Disk.{DiskView, IsSynced, LeavesOnly}
use Rattle.gate_journal.specs.Frame.{payload_of}
use Rattle.gate_journal.specs.Staged.{KeepsStaged}
use Rattle.gate_journal.specs.Stages.{Stages, Settles}
use Rattle.gate_journal.specs.declared.journal.JournalFault.{JournalFault}
use Rattle.gate_journal.specs.declared.journal.JournalFault.TheVariants.{Full, Dead}
use Rattle.spool_areas.specs.Header.{header_len, header_at, epoch_of, version_of}
use Rattle.spool_areas.specs.Payloads.{HasPayloads, HasVersionAndPayloads}
use Rattle.spool_areas.specs.Current.{Current, KeepsPayloads}
use Rattle.spool_areas.specs.AreaAppends.{journal_of}

-- Each image of the disk has these payloads and no others in its current area, which has this epoch and version. The staged
-- payloads are written after them, and the next record goes after all of them. If nothing is staged, nothing is unsynced.
pub record KeepsStagedPayloads {D : Type 0} (v : DiskView D) (areas : Current D) (payloads staged : List (List ℕ)) : Type 0 where
  pub kept : KeepsStaged v areas.disk (areas.base + header_len) areas.gate areas.held payloads staged
  pub synced : areas.held ≡ None → IsSynced v areas.disk
  pub each : (c : List ℕ) → v.image areas.disk c → HasPayloads areas.base payloads c
  pub epoch : (c : List ℕ) → v.image areas.disk c → epoch_of (header_at areas.base c) ≡ areas.epoch
  pub version : (c : List ℕ) → v.image areas.disk c → version_of (header_at areas.base c) ≡ areas.version
  pub inside : areas.gate < areas.end

-- These payloads, or these and all staged ones, in the same version.
abbrev pub HasBeforeOrAll : ℕ → ℕ → List (List ℕ) → List (List ℕ) → List ℕ → Type 0
HasBeforeOrAll base version payloads staged bytes =
    HasVersionAndPayloads base version payloads bytes ⊎ HasVersionAndPayloads base version (payloads ++ staged) bytes

-- The payload of a frame is staged in the current area's journal.
pub record AreaStages {D : Type 0} (v : DiskView D) (room : ℕ) (old new : Current D) (frame filled : List ℕ) (result : Result ℕ JournalFault) : Type 0 where
  pub stages : Stages v room (journal_of old) (journal_of new) old.disk new.disk frame filled result
  pub untouched : (IsErrOf result Dead ⊎ IsErrOf result Full) → new ≡ old
  pub same : (new.base ≡ old.base) × (new.end ≡ old.end) × (new.epoch ≡ old.epoch) × (new.version ≡ old.version)
  -- If each image has these payloads and no others, this stays so, also during the call, and one more payload is staged.
  pub staged : OnOk result ((payloads staged : List (List ℕ)) → KeepsStagedPayloads v old payloads staged → KeepsStagedPayloads v new payloads (staged ++ payload_of frame ∷ []))
  pub any_moment : (payloads staged : List (List ℕ)) → KeepsStagedPayloads v old payloads staged →
      LeavesOnly v old.disk new.disk (HasVersionAndPayloads old.base old.version payloads)

-- All staged payloads are made durable together.
pub record AreaSettles {D : Type 0} (v : DiskView D) (old new : Current D) (result : Result (Unit {0}) JournalFault) : Type 0 where
  pub settles : Settles v (journal_of old) (journal_of new) old.disk new.disk result
  pub untouched : IsErrOf result Dead → new ≡ old
  pub none : old.dead ≡ false → old.held ≡ None → new ≡ old
  pub same : (new.base ≡ old.base) × (new.end ≡ old.end) × (new.epoch ≡ old.epoch) × (new.version ≡ old.version)
  -- Each image has the payloads and the staged ones afterwards. A crash during the call leaves the payloads without the
  -- staged ones, or all of them.
  pub settled : OnOk result ((payloads staged : List (List ℕ)) → KeepsStagedPayloads v old payloads staged → KeepsPayloads v new (payloads ++ staged))
  pub any_moment : (payloads staged : List (List ℕ)) → KeepsStagedPayloads v old payloads staged →
      LeavesOnly v old.disk new.disk (HasBeforeOrAll old.base old.version payloads staged)

-- Nothing is staged, or the device has failed.
abbrev pub AreSettled : {D : Type 0} → Current D → Type 0
AreSettled areas = areas.dead ≡ false → areas.held ≡ None
