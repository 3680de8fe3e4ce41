-- The result of an append.
use Rattle.std.specs.Prelude.{◌≡◌, ◌⊎◌, ◌↔◌, ◌<◌, ℕ, ◌+◌, ◌-◌, ◌^◌, List, [], ◌∷◌, ◌++◌, Bool, false, length, Option, Result, IfOk, OnOk, OnErr, IsErrOf, IsTrue}
use Rattle.spool_disk.specs.Disk.{DiskView, Blames, IsSynced, IsWritten, LeavesOnly, ChangesOnly}
use Rattle.gate_journal.specs.Entries.{record_of, IsBeforeOrAfter, KeepsEntries}
use Rattle.gate_journal.specs.Frame.{payload_of, framed}
use Rattle.gate_journal.specs.declared.journal.JournalFault.{JournalFault}
use Rattle.gate_journal.specs.declared.journal.JournalFault.TheVariants.{Full, Disk, Dead}

-- The offset of a journal's first gate, the offset after its area's last byte, the offset of its next record, the closed gate in front of
-- the staged records, if there are any, and whether a call has met a device error.
pub record JournalState : Type 0 where
  pub base : ℕ
  pub end : ℕ
  pub place : ℕ
  pub held : Option ℕ
  pub dead : Bool

-- The bytes that an append reserves from a record's next gate on: room for one record of one byte, and the gate after it.
abbrev pub kept_room : ℕ
kept_room = 7

-- The payload of a frame is added to a journal without staged records if `room` bytes are free from the record's next gate on. `old` and
-- `new` are the journal, `before` and `after` the disk, `frame` and `filled` the frame.
pub record Appends {D : Type 0} (v : DiskView D) (room : ℕ) (old new : JournalState) (before after : D) (frame filled : List ℕ) (result : Result ℕ JournalFault) : Type 0 where
  -- The result, each fault with its cause.
  pub dead : IsErrOf result Dead ↔ IsTrue old.dead
  pub full : IsErrOf result Full ↔ ((old.dead ≡ false) × (old.end < old.place + length frame + room))
  pub blames : Blames (v.failures before) (v.failures after) (IsErrOf result Disk)
  pub fits : IsErrOf result Disk → v.failures after < 2 ^ 64
  pub answer : IfOk result (λ at. at ≡ old.place + 5)
  -- The journal and the frame.
  pub untouched : (IsErrOf result Dead ⊎ IsErrOf result Full) → (new ≡ old) × (after ≡ before) × (filled ≡ frame)
  pub dies : IsTrue new.dead ↔ (IsTrue old.dead ⊎ IsErrOf result Disk)
  pub same : (new.base ≡ old.base) × (new.end ≡ old.end)
  pub place : OnOk result (new.place ≡ old.place + length frame)
  pub held : OnErr result (new.place ≡ old.place)
  pub none : new.held ≡ old.held
  pub payload : payload_of filled ≡ payload_of frame
  pub framed : OnOk result (filled ≡ framed (payload_of frame))
  -- The bytes: the record is at the gate, with a closed gate after it. All others are unchanged.
  pub written : OnOk result (IsWritten v before after old.place (record_of (payload_of frame) ++ 0 ∷ []))
  pub changes : ChangesOnly v before after old.place (1 + length frame)
  pub inside : ChangesOnly v before after old.place (old.end - old.place)
  pub durable : OnOk result (IsSynced v after)
  -- If each image has these entries and no others, one is added, and a crash meanwhile leaves these or one more.
  pub added : OnOk result ((payloads : List (List ℕ)) → KeepsEntries v before old.base old.place payloads →
      KeepsEntries v after new.base new.place (payloads ++ payload_of frame ∷ []))
  pub any_moment : (payloads : List (List ℕ)) → KeepsEntries v before old.base old.place payloads →
      LeavesOnly v before after (IsBeforeOrAfter old.base payloads (payload_of frame))
