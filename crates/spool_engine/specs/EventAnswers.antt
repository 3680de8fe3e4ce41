-- The spool's answer to an event or a checkpoint, and the reply.
use Rattle.std.specs.Prelude.{◌≡◌, ◌≤◌, ◌↔◌, ◌⊎◌, ℕ, List, take, codes, false, IsSome, Result, Ok, Err, OnOk}
use Rattle.spool_types.specs.declared.event.Event.{Event}
use Rattle.spool_types.specs.declared.event.Reply.{Reply}
use Rattle.spool_types.specs.State.{State}
use Rattle.job_table.specs.TableVersions.{raised}
use Rattle.spool_disk.specs.Disk.{DiskView, LeavesOnly}
use Rattle.command_lines.specs.declared.command.Command.{Command}
use Rattle.command_lines.specs.Replies.{refusal_line}
use Rattle.spool_core.specs.Image.{HasInEitherVersion, HasWhole, HasBeforeOrAfterEvent, HasWholeBeforeOrAfterEvent, documents_after_one}
use Rattle.spool_core.specs.Checkpointing.{IsCheckpoint}
use Rattle.spool_core.specs.declared.spool.checkpoint_fault.CheckpointFault.{CheckpointFault}
use Rattle.spool_core.specs.OpenSpools.{OpenSpool, IsAnswer}
use Rattle.spool_core.specs.declared.spool.apply_fault.ApplyFault.{ApplyFault}
use Rattle.spool_core.specs.declared.spool.apply_fault.ApplyFault.TheVariants.{Dead, Refused, Memory, Full, Disk}
use Rattle.print_rounds.specs.Rounds.{LeavesDocuments}
use Rattle.spool_engine.specs.EventSteps.{Setting, EventStep, IsEventStep, IsKept, IsStill, IsCut, IsDocumentOf, checkpoint_fault_line}
use Rattle.spool_core.specs.declared.reading.Unread.{Unread}
use Rattle.spool_core.specs.declared.reading.Unread.TheVariants as unread

-- The line for a fault.
abbrev pub fault_line : ApplyFault → List ℕ
fault_line Dead = codes "error dead\n"
fault_line (Refused refusal) = refusal_line refusal
fault_line Memory = codes "error memory\n"
fault_line Full = codes "error full\n"
fault_line Disk = codes "error disk\n"

-- The reply to an event, given the line for the table's reply.
abbrev pub event_line : (Reply → List ℕ) → Result Reply ApplyFault → List ℕ
event_line line (Ok reply) = line reply
event_line line (Err fault) = fault_line fault

-- An event with this answer, and the images that a crash leaves during it and after it.
pub record IsApplied {D : Type 0} (device : DiskView D) (old : OpenSpool D) (e : Event) (answer : Result Reply ApplyFault) (new : OpenSpool D) : Type 0 where
  pub cause : IsAnswer device old e answer new
  pub counted : device.failures old.disk ≤ device.failures new.disk
  pub told : IsSome (device.bytes new.disk) ↔ IsSome (device.bytes old.disk)
  pub crash : old.dead ≡ false → IsSome (device.bytes old.disk) →
      LeavesOnly device old.disk new.disk (HasBeforeOrAfterEvent old.state e)
  pub whole : old.dead ≡ false → IsSome (device.bytes old.disk) → (documents : ℕ → List ℕ) → LeavesDocuments device documents old →
      LeavesOnly device old.disk new.disk (HasWholeBeforeOrAfterEvent old.state documents e)
  pub kept : IsKept device new
  pub sent : OnOk answer (IsSome (device.bytes old.disk) → (documents : ℕ → List ℕ) → LeavesDocuments device documents old →
      LeavesDocuments device (documents_after_one old.state documents e) new)

-- The first bytes of a job's document.
pub record IsFrontOf {D : Type 0} (device : DiskView D) (s : OpenSpool D) (j count : ℕ) (front : List ℕ) : Type 0 where
  pub document : List ℕ
  pub own : IsDocumentOf device s j document
  pub front_is : front ≡ take count document

-- The bytes were read, or memory ran out, or the device failed.
abbrev pub IsFrontRead : {D : Type 0} → DiskView D → OpenSpool D → ℕ → ℕ → Result (List ℕ) Unread → OpenSpool D → Type 0
IsFrontRead device old j count (Ok front) new = IsStill device old new × IsFrontOf device old j count front
IsFrontRead device old j count (Err unread.Memory) new = new ≡ old
IsFrontRead device old j count (Err unread.Disk) new = IsCut device old new

-- The reply to a checkpoint.
abbrev pub checkpoint_line : Result (Unit {0}) CheckpointFault → List ℕ
checkpoint_line (Ok done) = codes "ok\n"
checkpoint_line (Err fault) = checkpoint_fault_line fault

-- The image has the table with these documents, in its version or in the newest.
abbrev pub HasWholeInEitherVersion : State → (ℕ → List ℕ) → List ℕ → Type 0
HasWholeInEitherVersion s documents image = HasWhole s documents image ⊎ HasWhole (raised s) documents image

-- A checkpoint with this answer, and the images that a crash leaves during it and after it.
pub record IsRelisted {D : Type 0} (device : DiskView D) (old : OpenSpool D) (answer : Result (Unit {0}) CheckpointFault) (new : OpenSpool D) : Type 0 where
  pub cause : IsCheckpoint device old answer new
  pub counted : device.failures old.disk ≤ device.failures new.disk
  pub told : IsSome (device.bytes new.disk) ↔ IsSome (device.bytes old.disk)
  pub crash : old.dead ≡ false → IsSome (device.bytes old.disk) →
      LeavesOnly device old.disk new.disk (HasInEitherVersion old.state)
  pub whole : old.dead ≡ false → IsSome (device.bytes old.disk) → (documents : ℕ → List ℕ) → LeavesDocuments device documents old →
      LeavesOnly device old.disk new.disk (HasWholeInEitherVersion old.state documents)
  pub kept : IsKept device new
  pub lasting : OnOk answer (IsSome (device.bytes old.disk) → (documents : ℕ → List ℕ) → LeavesDocuments device documents old → LeavesDocuments device documents new)

-- A step of this command on the spool, before its reply is written.
pub record Takes {D : Type 0} (v : Setting D) (s : OpenSpool D) (c : Command) (t : EventStep D) (s' : OpenSpool D) : Type 0 where
  pub legal : IsEventStep v s t
  pub command : t.command ≡ c
  pub next : t.next ≡ s'
