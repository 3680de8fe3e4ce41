-- An open spool as its callers see it.
use Rattle.spool_disk.specs.Disk.{DiskView}
use Rattle.std.specs.Prelude.{◌≡◌, ◌<◌, ◌≤◌, ◌^◌, ℕ, ◌+◌, ◌-◌, length, List, Bool, true, false, IsTrue, Option, None, Some, Result, Ok, Err}
use Rattle.spool_types.specs.declared.event.Event.{Event}
use Rattle.spool_types.specs.declared.event.Reply.{Reply}
use Rattle.spool_types.specs.State.{State, Job, job_at}
use Rattle.spool_types.specs.declared.event.Event.TheVariants.{Reopen}
use Rattle.job_table.specs.Attempts.{HasNoProcessing}
use Rattle.job_table.specs.DocumentLengths.{document_len}
use Rattle.job_table.specs.Step.{refusal_of, step}
use Rattle.event_codec.specs.Spelling.{spelling, IsSpellable}
use Rattle.gate_journal.specs.Appends.{kept_room}
use Rattle.gate_journal.specs.Frame.{payload_of}
use Rattle.gate_journal.specs.Staged.{shown}
use Rattle.spool_core.specs.declared.spool.apply_fault.ApplyFault.{ApplyFault}
use Rattle.spool_core.specs.declared.spool.apply_fault.ApplyFault.TheVariants.{Dead, Refused, Memory, Full, Disk}

-- The disk, the table, the number of bytes from the place of the next record to the end of the area, the area's epoch, the closed
-- gate in front of the staged events, if there are any, and whether the device has failed.
pub record OpenSpool (D : Type 0) : Type 0 where
  pub disk : D
  pub state : State
  pub room : ℕ
  pub epoch : ℕ
  pub held : Option ℕ
  pub dead : Bool

-- Nothing is staged, or the device has failed.
abbrev pub IsSettled : {D : Type 0} → OpenSpool D → Type 0
IsSettled spool = spool.dead ≡ false → spool.held ≡ None

-- The bytes that the disk reports, with the held gate open. They contain the staged events too.
abbrev pub shown_bytes : {D : Type 0} → DiskView D → OpenSpool D → Option (List ℕ)
shown_bytes v spool = shown spool.held (v.bytes spool.disk)

-- The length in bytes of this event's record.
abbrev pub record_len : Event → ℕ
record_len e = 5 + length (spelling e)

-- The room that an opening leaves: all of it if no job is processing in the table, otherwise all except the record of one
-- reopening.
pub record LeavesRoom (s : State) (room left : ℕ) : Type 0 where
  pub idle : HasNoProcessing s → left ≡ room
  pub busy : ¬ (HasNoProcessing s) → left ≡ room - record_len Reopen

-- The event is accepted, and its record and the 7 bytes reserved after it fit into the area.
pub record Fits {D : Type 0} (spool : OpenSpool D) (e : Event) : Type 0 where
  pub alive : spool.dead ≡ false
  pub accepted : refusal_of spool.state e ≡ None
  pub room : record_len e + kept_room ≤ spool.room

pub record IsDone {D : Type 0} (old : OpenSpool D) (e : Event) (reply : Reply) (new : OpenSpool D) : Type 0 where
  pub fits : Fits old e
  pub step : step old.state e ≡ Ok (new.state, reply)
  pub room : new.room ≡ old.room - record_len e
  pub alive : new.dead ≡ false

pub record IsFailed {D : Type 0} (v : DiskView D) (old : OpenSpool D) (e : Event) (new : OpenSpool D) : Type 0 where
  pub fits : Fits old e
  pub state : new.state ≡ old.state
  pub room : new.room ≡ old.room
  pub dead : new.dead ≡ true
  pub cause : v.failures old.disk < v.failures new.disk

pub record IsFull {D : Type 0} (old : OpenSpool D) (e : Event) : Type 0 where
  pub alive : old.dead ≡ false
  pub accepted : refusal_of old.state e ≡ None
  pub room : old.room < record_len e + kept_room

-- Each result of `apply`, with its cause and its effect. The causes in order: dead, refused, out of memory, full, device failure.
abbrev pub IsAnswer : {D : Type 0} → DiskView D → OpenSpool D → Event → Result Reply ApplyFault → OpenSpool D → Type 0
IsAnswer v old e (Ok reply) new = IsDone old e reply new
IsAnswer v old e (Err Dead) new = IsTrue old.dead × (new ≡ old)
IsAnswer v old e (Err (Refused r)) new = (old.dead ≡ false) × (step old.state e ≡ Err r) × (new ≡ old)
IsAnswer v old e (Err Memory) new = (old.dead ≡ false) × (refusal_of old.state e ≡ None) × (new ≡ old)
IsAnswer v old e (Err Full) new = IsFull old e × (new ≡ old)
IsAnswer v old e (Err Disk) new = IsFailed v old e new

-- The event is journalled: its record fitted, and the room is less by it.
pub record IsRecorded {D : Type 0} (old : OpenSpool D) (e : Event) (new : OpenSpool D) : Type 0 where
  pub fits : Fits old e
  pub state : new.state ≡ old.state
  pub room : new.room ≡ old.room - record_len e
  pub alive : new.dead ≡ false

-- The same results before the event is committed to the table.
abbrev pub IsJournalled : {D : Type 0} → DiskView D → OpenSpool D → Event → Result ℕ ApplyFault → OpenSpool D → Type 0
IsJournalled v old e (Ok place) new = IsRecorded old e new
IsJournalled v old e (Err fault) new = IsAnswer v old e (Err fault) new

-- The frame of an event's record.
pub record IsFrameOf (e : Event) (frame : List ℕ) : Type 0 where
  pub spellable : IsSpellable e
  pub payload : payload_of frame ≡ spelling e
  pub len : length frame ≡ record_len e
  pub short : length frame < 2 ^ 32

-- The length of the document of the job, if one was found.
abbrev pub len_found : Option Job → ℕ
len_found None = 0
len_found (Some r) = document_len r

abbrev pub len_at : State → ℕ → ℕ
len_at s j = len_found (job_at s j)
