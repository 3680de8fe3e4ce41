-- The results of staging a record and of settling.
use Rattle.std.specs.Prelude.{◌≡◌, ◌⊎◌, ◌↔◌, ◌<◌, ℕ, ◌+◌, ◌-◌, ◌^◌, List, [], ◌∷◌, ◌++◌, false, length, Option, None, Some, Result, Ok, IfOk, OnOk, OnErr, IsErrOf, IsTrue}
use Rattle.std.specs.Option.{option_map}
use Rattle.spool_disk.specs.Disk.{DiskView, Blames, IsSynced, LeavesOnly, ChangesOnly, overwritten}
use Rattle.gate_journal.specs.Appends.{JournalState}
use Rattle.gate_journal.specs.Entries.{record_of, HasEntries, KeepsEntries}
use Rattle.gate_journal.specs.Frame.{payload_of, framed}
use Rattle.gate_journal.specs.Staged.{gate_of, shown, KeepsStaged, IsBeforeOrAll}
use Rattle.gate_journal.specs.declared.journal.JournalFault.{JournalFault}
use Rattle.gate_journal.specs.declared.journal.JournalFault.TheVariants.{Full, Disk, Dead}

-- The payload of a frame is staged if `room` bytes are free from the record's next gate on. `old` and `new` are the journal, `before` and
-- `after` the disk, `frame` and `filled` the frame.
pub record Stages {D : Type 0} (v : DiskView D) (room : ℕ) (old new : JournalState) (before after : D) (frame filled : List ℕ) (result : Result ℕ JournalFault) : Type 0 where
  -- The result, each fault with its cause, as of an append.
  pub dead : IsErrOf result Dead ↔ IsTrue old.dead
  pub full : IsErrOf result Full ↔ ((old.dead ≡ false) × (old.end < old.place + length frame + room))
  pub blames : Blames (v.failures before) (v.failures after) (IsErrOf result Disk)
  pub fits : IsErrOf result Disk → v.failures after < 2 ^ 64
  pub answer : IfOk result (λ at. at ≡ old.place + 5)
  -- The journal and the frame.
  pub untouched : (IsErrOf result Dead ⊎ IsErrOf result Full) → (new ≡ old) × (after ≡ before) × (filled ≡ frame)
  pub dies : IsTrue new.dead ↔ (IsTrue old.dead ⊎ IsErrOf result Disk)
  pub same : (new.base ≡ old.base) × (new.end ≡ old.end)
  pub place : OnOk result (new.place ≡ old.place + length frame)
  pub held : OnOk result (new.held ≡ Some (gate_of old.held old.place))
  pub stays : OnErr result ((new.place ≡ old.place) × (new.held ≡ old.held))
  pub payload : payload_of filled ≡ payload_of frame
  pub framed : OnOk result (filled ≡ framed (payload_of frame))
  -- The bytes: with the held gate open, the record is at its offset, with a closed gate after it. All others are unchanged, also the held
  -- gate and the bytes before it.
  pub written : OnOk result (shown new.held (v.bytes after) ≡ option_map (overwritten old.place (record_of (payload_of frame) ++ 0 ∷ [])) (shown old.held (v.bytes before)))
  pub changes : ChangesOnly v before after old.place (1 + length frame)
  pub behind : ChangesOnly v before after (gate_of old.held old.place + 1) (old.place + length frame - gate_of old.held old.place)
  pub inside : ChangesOnly v before after old.place (old.end - old.place)
  -- If each image has these entries and no others, this stays so, also during the call, and one more entry is staged.
  pub staged : OnOk result ((payloads staged : List (List ℕ)) → KeepsStaged v before old.base old.place old.held payloads staged →
      KeepsStaged v after new.base new.place new.held payloads (staged ++ payload_of frame ∷ []))
  pub any_moment : (payloads staged : List (List ℕ)) → KeepsStaged v before old.base old.place old.held payloads staged →
      LeavesOnly v before after (HasEntries old.base payloads)

-- No byte changes except the held gate.
abbrev pub ChangesGate : {D : Type 0} → DiskView D → D → D → Option ℕ → Type 0
ChangesGate v before after None = after ≡ before
ChangesGate v before after (Some gate) = ChangesOnly v before after gate 1

-- All staged entries are made durable together.
pub record Settles {D : Type 0} (v : DiskView D) (old new : JournalState) (before after : D) (result : Result (Unit {0}) JournalFault) : Type 0 where
  -- The result, each fault with its cause.
  pub dead : IsErrOf result Dead ↔ IsTrue old.dead
  pub roomy : ¬ (IsErrOf result Full)
  pub blames : Blames (v.failures before) (v.failures after) (IsErrOf result Disk)
  pub fits : IsErrOf result Disk → v.failures after < 2 ^ 64
  -- The journal. If nothing is staged, no device is called.
  pub untouched : IsErrOf result Dead → (new ≡ old) × (after ≡ before)
  pub none : old.dead ≡ false → old.held ≡ None → (result ≡ Ok tt) × (new ≡ old) × (after ≡ before)
  pub dies : IsTrue new.dead ↔ (IsTrue old.dead ⊎ IsErrOf result Disk)
  pub same : (new.base ≡ old.base) × (new.end ≡ old.end) × (new.place ≡ old.place)
  pub held : OnOk result (new.held ≡ None)
  pub stays : OnErr result (new.held ≡ old.held)
  -- The bytes: the held gate is opened, and all others are unchanged.
  pub written : OnOk result (v.bytes after ≡ shown old.held (v.bytes before))
  pub changes : ChangesGate v before after old.held
  pub durable : OnOk result ((gate : ℕ) → old.held ≡ Some gate → IsSynced v after)
  -- If these are staged after these entries, each image has both afterwards, and a crash during the call leaves the entries without the
  -- staged ones, or all of them.
  pub settled : OnOk result ((payloads staged : List (List ℕ)) → KeepsStaged v before old.base old.place old.held payloads staged →
      KeepsEntries v after new.base new.place (payloads ++ staged))
  pub any_moment : (payloads staged : List (List ℕ)) → KeepsStaged v before old.base old.place old.held payloads staged →
      LeavesOnly v before after (IsBeforeOrAll old.base payloads staged)
