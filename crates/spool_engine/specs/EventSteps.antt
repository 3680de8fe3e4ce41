-- A step of a command without rounds, also if something failed: its text, its one event, or its checkpoint.
use Rattle.std.specs.Prelude.{◌≡◌, ℕ, ◌<◌, ◌≤◌, ◌↔◌, ◌⊎◌, List, [], ◌∷◌, length, codes, true, false, Bool, IsTrue, IsSome, Option, None, Some, Result, Ok, Err}
use Rattle.std.specs.Result.{IsOk}
use Rattle.spool_types.specs.declared.event.Event.{Event}
use Rattle.spool_types.specs.declared.event.Event.TheVariants as events
use Rattle.spool_types.specs.declared.event.Reply.{Reply}
use Rattle.spool_types.specs.declared.refusal.Refusal.{Refusal}
use Rattle.spool_types.specs.State.{State}
use Rattle.spool_types.specs.Values.{is_uri}
use Rattle.filter_args.specs.OptionTexts.{reading}
use Rattle.filter_args.specs.declared.place.Place.{Place}
use Rattle.job_table.specs.Step.{refusal_of, step}
use Rattle.job_table.specs.TableVersions.{raised}
use Rattle.spool_disk.specs.Disk.{DiskView, ChangesNothing, LeavesOnly}
use Rattle.command_lines.specs.declared.command.Command.{Command}
use Rattle.command_lines.specs.declared.command.Command.TheVariants.{Queue, Create, Close, Checkpoint}
use Rattle.spool_core.specs.Driving.{HasWholePrefix, documents_after}
use Rattle.spool_core.specs.Image.{HasTable, HasDocument, HasWhole}
use Rattle.spool_core.specs.OpenSpools.{OpenSpool, IsDone, IsFull, IsFailed, len_at}
use Rattle.spool_core.specs.Checkpointing.{IsCheckpoint, IsListed}
use Rattle.spool_core.specs.declared.spool.checkpoint_fault.CheckpointFault.{CheckpointFault}
use Rattle.spool_core.specs.declared.spool.checkpoint_fault.CheckpointFault.TheVariants as faults
use Rattle.print_rounds.specs.Rounds.{HasSomeOf, LeavesDocuments}
use Rattle.spool_engine.specs.Mime.{Mime}
use Rattle.spool_engine.specs.Script.{Meaning, says, asks, lists, runs, meaning, event_of, closing_of, step_line}

-- The view of the device, the MIME database, and the `Place` of the children.
pub record Setting (D : Type 0) : Type 1 where
  pub device : DiskView D
  pub mime : Mime
  pub place : Place

abbrev pub setting : {D : Type 0} → DiskView D → Mime → Place → Setting D
setting device mime place = record { device = device; mime = mime; place = place }

-- The outcome of a command.
pub data Outcome : Type 0 where
  served : Outcome
  no_memory : Outcome
  full : Outcome
  disk : Outcome
  dead : Outcome
  -- Memory ran out while the URI of a queue or the options of a job were read.
  unread : Outcome
  -- The device failed while the document of a job was read.
  unreadable : Outcome
  -- The checkpoint failed with this fault.
  unlisted : CheckpointFault → Outcome

-- A command, the document that was read for it, its outcome, its reply, and the spool after it.
pub record EventStep (D : Type 0) : Type 0 where
  pub command : Command
  pub document : List ℕ
  pub outcome : Outcome
  pub text : List ℕ
  pub next : OpenSpool D

-- The spool took the event, by the table's answer: the event is journaled and uses its room, or it is refused and nothing has changed. A
-- dead spool takes none.
abbrev pub IsTaken : {D : Type 0} → OpenSpool D → Event → Result (State × Reply) Refusal → OpenSpool D → Type 0
IsTaken old e (Ok r) new = IsDone old e r.1 new
IsTaken old e (Err refusal) new = (old.dead ≡ false) × (new ≡ old)

-- The reply is Script's, and the spool took the event or listed its table. A text changes nothing.
abbrev pub IsServedBy : {D : Type 0} → DiskView D → OpenSpool D → Meaning → List ℕ → OpenSpool D → Type 0
IsServedBy device s (says text) reply new = (reply ≡ text) × (new ≡ s)
IsServedBy device s (asks e line) reply new = (reply ≡ step_line line (step s.state e)) × IsTaken s e (step s.state e) new
IsServedBy device s lists reply new = (reply ≡ codes "ok\n") × IsListed device s new
IsServedBy device s (runs most line) reply new = ⊥

abbrev pub IsServed : {D : Type 0} → Setting D → OpenSpool D → EventStep D → Type 0
IsServed v s t = IsServedBy v.device s (meaning v.mime s.state t.document t.command) t.text t.next

-- ## The document that is read to close a job

-- A read of a document from the device changes neither the table nor the images that a crash leaves.
pub record IsStill {D : Type 0} (device : DiskView D) (old new : OpenSpool D) : Type 0 where
  pub state : new.state ≡ old.state
  pub room : new.room ≡ old.room
  pub epoch : new.epoch ≡ old.epoch
  pub held : new.held ≡ old.held
  pub dead : new.dead ≡ old.dead
  pub disk : ChangesNothing device old.disk new.disk
  pub counted : device.failures new.disk ≡ device.failures old.disk

-- Only a `close` reads a document.
abbrev pub Closes : Command → Type 0
Closes (Close job name) = Unit {0}
Closes c = ⊥

-- A command changed nothing, except for the effect of a read.
abbrev pub IsLeft : {D : Type 0} → DiskView D → OpenSpool D → Command → OpenSpool D → Type 0
IsLeft device s c next = (next ≡ s) ⊎ (Closes c × IsStill device s next)

-- The device failed during the read, and the spool is dead.
pub record IsCut {D : Type 0} (device : DiskView D) (old new : OpenSpool D) : Type 0 where
  pub alive : old.dead ≡ false
  pub state : new.state ≡ old.state
  pub room : new.room ≡ old.room
  pub epoch : new.epoch ≡ old.epoch
  pub dead : new.dead ≡ true
  pub disk : ChangesNothing device old.disk new.disk
  pub cause : device.failures old.disk < device.failures new.disk

-- The document is as long as the table states. If the disk reports its bytes, it is the document that these contain for the job.
pub record IsDocumentOf {D : Type 0} (device : DiskView D) (s : OpenSpool D) (j : ℕ) (document : List ℕ) : Type 0 where
  pub long : length document ≡ len_at s.state j
  pub own : (bytes kept : List ℕ) → device.bytes s.disk ≡ Some bytes → HasDocument j kept bytes → document ≡ kept

-- The document was read before this outcome.
abbrev pub is_behind_read : Outcome → Bool
is_behind_read served = true
is_behind_read no_memory = false
is_behind_read full = true
is_behind_read disk = true
is_behind_read dead = false
is_behind_read unread = false
is_behind_read unreadable = false
is_behind_read (unlisted fault) = false

-- A job that is closed, unless that is refused, is closed by its own document.
abbrev pub IsReadFor : {D : Type 0} → Setting D → OpenSpool D → List ℕ → Outcome → Command → Type 0
IsReadFor v s document outcome (Close job name) =
    IsTrue (is_behind_read outcome) → refusal_of s.state (events.Close (closing_of v.mime s.state document job name)) ≡ None → IsDocumentOf v.device s job document
IsReadFor v s document outcome c = Unit {0}

-- ## Commands that failed

-- The command is an event with this line as its reply, and the cause of the line holds.
pub record Fails {D : Type 0} (m : Mime) (s : OpenSpool D) (t : EventStep D) (line : List ℕ) (Cause : Event → Type 0) : Type 0 where
  pub event : Event
  pub is : event_of m s.state t.document t.command ≡ Some event
  pub cause : Cause event
  pub text : t.text ≡ line

-- The text that is checked before the spool is asked may be valid: a URI within its limits, or options without an error.
abbrev pub MayBeRead : Command → Type 0
MayBeRead (Queue q) = is_uri q.uri ≡ true
MayBeRead (Create c) = IsOk (reading c.options)
MayBeRead c = ⊥

-- The text was not read, and nothing has changed.
pub record IsUnread {D : Type 0} (s : OpenSpool D) (t : EventStep D) : Type 0 where
  pub may : MayBeRead t.command
  pub text : t.text ≡ codes "error memory\n"
  pub same : t.next ≡ s

-- The event would have been accepted, but the device failed at the document, and the event was not tried.
pub record IsUnreadable {D : Type 0} (v : Setting D) (s : OpenSpool D) (t : EventStep D) : Type 0 where
  pub closes : Closes t.command
  pub fails : Fails v.mime s t (codes "error disk\n") (λ e. (refusal_of s.state e ≡ None) × IsCut v.device s t.next)

-- The line for a fault of a checkpoint.
abbrev pub checkpoint_fault_line : CheckpointFault → List ℕ
checkpoint_fault_line faults.Dead = codes "error dead\n"
checkpoint_fault_line faults.EpochEnd = codes "error epoch\n"
checkpoint_fault_line faults.Memory = codes "error memory\n"
checkpoint_fault_line faults.Full = codes "error full\n"
checkpoint_fault_line faults.Disk = codes "error disk\n"

-- The command is a checkpoint that failed with this fault, with its cause and its effect.
pub record FailsToList {D : Type 0} (v : Setting D) (s : OpenSpool D) (t : EventStep D) (fault : CheckpointFault) : Type 0 where
  pub is : meaning v.mime s.state t.document t.command ≡ lists
  pub cause : IsCheckpoint v.device s (Err fault) t.next
  pub text : t.text ≡ checkpoint_fault_line fault

-- Served, or an error's line and no row has changed. Each line except `error memory` comes only for its cause.
abbrev pub IsOutcome : {D : Type 0} → Setting D → OpenSpool D → EventStep D → Outcome → Type 0
IsOutcome v s t served = IsServed v s t
IsOutcome v s t no_memory = Fails v.mime s t (codes "error memory\n") (λ e. (s.dead ≡ false) × (refusal_of s.state e ≡ None) × IsLeft v.device s t.command t.next)
IsOutcome v s t full = Fails v.mime s t (codes "error full\n") (λ e. IsFull s e × IsLeft v.device s t.command t.next)
IsOutcome v s t disk = Fails v.mime s t (codes "error disk\n") (λ e. IsFailed v.device s e t.next)
IsOutcome v s t unread = IsUnread s t
IsOutcome v s t unreadable = IsUnreadable v s t
IsOutcome v s t (unlisted fault) = FailsToList v s t fault
IsOutcome v s t dead = Fails v.mime s t (codes "error dead\n") (λ e. IsTrue s.dead × (t.next ≡ s))

-- Until the device has failed, a crash leaves the table, if the disk reports its bytes.
abbrev pub IsKept : {D : Type 0} → DiskView D → OpenSpool D → Type 0
IsKept device s = s.dead ≡ false → IsSome (device.bytes s.disk) → (c : List ℕ) → device.image s.disk c → HasTable s.state c

abbrev pub listed : Option Event → List Event
listed None = []
listed (Some e) = e ∷ []

-- The event was tried if the table answered it, or if the device failed at it.
abbrev pub tried_as : Option Event → Outcome → List Event
tried_as asked served = listed asked
tried_as asked no_memory = []
tried_as asked full = []
tried_as asked disk = listed asked
tried_as asked dead = []
tried_as asked unread = []
tried_as asked unreadable = []
tried_as asked (unlisted fault) = []

-- The image has the table after the first of these events, some or all, and these documents with the bytes that they sent.
abbrev pub HasSomeSent : State → (ℕ → List ℕ) → List Event → List ℕ → Type 0
HasSomeSent s documents events image = HasWholePrefix s documents events 0 (length events) image

-- The command is a checkpoint.
abbrev pub is_checkpoint : Command → Bool
is_checkpoint Checkpoint = true
is_checkpoint c = false

-- The table after a crash in a command: the one after the first of the events that were tried in it, some or all. In a checkpoint it is the
-- table, also in the newest version.
abbrev pub HasTableIn : Command → State → List Event → List ℕ → Type 0
HasTableIn c s tried image = HasSomeOf s tried image ⊎ ((is_checkpoint c ≡ true) × HasTable (raised s) image)

-- The same with these documents and the bytes that the events sent.
abbrev pub HasWholeIn : Command → State → (ℕ → List ℕ) → List Event → List ℕ → Type 0
HasWholeIn c s documents tried image = HasSomeSent s documents tried image ⊎ ((is_checkpoint c ≡ true) × HasWhole (raised s) documents image)

-- A step on the spool that it found. Unless the device had failed before, a crash at any moment of it leaves the table before the command
-- or, if its event was tried, the one after it. A checkpoint leaves the table in its version or in the newest. If the device has not failed
-- by the end of the step, a crash after it leaves the table that is shown. The same holds for the documents: those before the step, or with
-- the bytes that the event sends.
pub record IsEventStep {D : Type 0} (v : Setting D) (s : OpenSpool D) (t : EventStep D) : Type 0 where
  pub outcome : IsOutcome v s t t.outcome
  pub read : IsReadFor v s t.document t.outcome t.command
  pub counted : v.device.failures s.disk ≤ v.device.failures t.next.disk
  pub told : IsSome (v.device.bytes t.next.disk) ↔ IsSome (v.device.bytes s.disk)
  pub crash : s.dead ≡ false → IsSome (v.device.bytes s.disk) →
      LeavesOnly v.device s.disk t.next.disk (HasTableIn t.command s.state (tried_as (event_of v.mime s.state t.document t.command) t.outcome))
  pub whole : s.dead ≡ false → IsSome (v.device.bytes s.disk) → (documents : ℕ → List ℕ) → LeavesDocuments v.device documents s →
      LeavesOnly v.device s.disk t.next.disk (HasWholeIn t.command s.state documents (tried_as (event_of v.mime s.state t.document t.command) t.outcome))
  pub kept : IsKept v.device t.next
  pub lasting : t.next.dead ≡ false → IsSome (v.device.bytes s.disk) → (documents : ℕ → List ℕ) → LeavesDocuments v.device documents s →
      LeavesDocuments v.device (documents_after s.state documents (tried_as (event_of v.mime s.state t.document t.command) t.outcome)) t.next
