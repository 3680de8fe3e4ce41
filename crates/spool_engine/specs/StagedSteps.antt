-- Commands whose events are staged, and the settle that makes them durable together: the table has a staged event at once, and no image has
-- it before the settle.
use Rattle.std.specs.Prelude.{◌≡◌, ◌≤◌, ◌↔◌, ◌⊎◌, ◌&&◌, not, Bool, ℕ, List, length, take, false, IsSome, IsTrue, None, Some, Result, Ok, Err, OnOk}
use Rattle.spool_disk.specs.Disk.{DiskView, IsSynced, LeavesOnly}
use Rattle.spool_types.specs.declared.event.Event.{Event}
use Rattle.spool_types.specs.declared.event.Event.TheVariants as events
use Rattle.spool_types.specs.declared.event.Reply.{Reply}
use Rattle.spool_types.specs.State.{State}
use Rattle.job_table.specs.Step.{refusal_of}
use Rattle.command_lines.specs.declared.command.Command.{Command}
use Rattle.command_lines.specs.declared.command.Command.TheVariants.{Close}
use Rattle.spool_core.specs.Batch.{HasBeforeOrAllEvents, HasWholeBeforeOrAll}
use Rattle.spool_core.specs.Driving.{documents_after}
use Rattle.spool_core.specs.Image.{HasDocument, HasDocuments, HasTable, HasWhole, documents_after_one}
use Rattle.spool_core.specs.OpenSpools.{OpenSpool, IsAnswer, IsSettled as NoneStaged, len_at, shown_bytes}
use Rattle.spool_core.specs.declared.reading.Unread.{Unread}
use Rattle.spool_core.specs.declared.reading.Unread.TheVariants as unread
use Rattle.spool_core.specs.declared.spool.apply_fault.ApplyFault.{ApplyFault}
use Rattle.print_rounds.specs.RunStates.{RunState}
use Rattle.print_rounds.specs.Rounds.{LeavesDocuments}
use Rattle.spool_engine.specs.EventSteps.{Setting, Outcome, EventStep, IsOutcome, IsKept, IsStill, IsCut, is_behind_read, is_checkpoint, tried_as}
use Rattle.spool_engine.specs.EngineRuns.{CommandStep, How, answered, ran, withheld, IsHeld, IsCommandStep, IsHow, TakesStep, documents_left, is_round}
use Rattle.spool_engine.specs.EventAnswers.{IsApplied, IsFrontRead, Takes}
use Rattle.spool_engine.specs.EngineTicks.{Ticked, IsTicked}
use Rattle.spool_engine.specs.Script.{Documents, closing_of, event_of}
use Rattle.spool_engine.specs.declared.durability.Durability.{Durability}
use Rattle.spool_engine.specs.declared.durability.Durability.TheVariants.{Durable, Staged}

-- ## What a crash leaves, and what is shown

-- The disk reports its bytes, and each image that a crash leaves now has this table.
pub record HoldsTable {D : Type 0} (device : DiskView D) (disk : D) (s : State) : Type 0 where
  pub tells : IsSome (device.bytes disk)
  pub each : (c : List ℕ) → device.image disk c → HasTable s c

-- The same with these documents.
pub record HoldsWhole {D : Type 0} (device : DiskView D) (disk : D) (s : State) (documents : Documents) : Type 0 where
  pub tells : IsSome (device.bytes disk)
  pub each : (c : List ℕ) → device.image disk c → HasWhole s documents c

-- The bytes that are shown, with the staged events, have these documents.
abbrev pub ShowsDocuments : {D : Type 0} → DiskView D → Documents → OpenSpool D → Type 0
ShowsDocuments device documents s = (r : List ℕ) → shown_bytes device s ≡ Some r → HasDocuments s.state documents r

-- Nothing becomes durable: a crash at any moment leaves the table and the documents that a crash before leaves.
pub record LeavesBefore {D : Type 0} (device : DiskView D) (old new : OpenSpool D) : Type 0 where
  pub tables : old.dead ≡ false → (before : State) → HoldsTable device old.disk before → LeavesOnly device old.disk new.disk (HasTable before)
  pub documents : old.dead ≡ false → (before : State) (documents : Documents) → HoldsWhole device old.disk before documents → LeavesOnly device old.disk new.disk (HasWhole before documents)

-- If nothing is staged, a crash leaves what is shown.
pub record IsPlainIfSettled {D : Type 0} (device : DiskView D) (s : OpenSpool D) : Type 0 where
  pub kept : NoneStaged s → IsKept device s
  pub synced : s.dead ≡ false → s.held ≡ None → IsSynced device s.disk

-- ## The document that is read to close a job

-- The document is as long as the table states. It is the one that the bytes shown have for the job.
pub record IsShownDocument {D : Type 0} (device : DiskView D) (s : OpenSpool D) (j : ℕ) (document : List ℕ) : Type 0 where
  pub long : length document ≡ len_at s.state j
  pub own : (bytes kept : List ℕ) → shown_bytes device s ≡ Some bytes → HasDocument j kept bytes → document ≡ kept

-- The first bytes of a job's document, as it is shown.
pub record IsShownFrontOf {D : Type 0} (device : DiskView D) (s : OpenSpool D) (j count : ℕ) (front : List ℕ) : Type 0 where
  pub document : List ℕ
  pub own : IsShownDocument device s j document
  pub front_is : front ≡ take count document

-- The bytes were read, or memory ran out, or the device failed.
abbrev pub IsShownFrontRead : {D : Type 0} → DiskView D → OpenSpool D → ℕ → ℕ → Result (List ℕ) Unread → OpenSpool D → Type 0
IsShownFrontRead device old j count (Ok front) new = IsStill device old new × IsShownFrontOf device old j count front
IsShownFrontRead device old j count (Err unread.Memory) new = new ≡ old
IsShownFrontRead device old j count (Err unread.Disk) new = IsCut device old new

-- A job that is closed, unless that is refused, is closed by its own document.
abbrev pub IsShownReadFor : {D : Type 0} → Setting D → OpenSpool D → List ℕ → Outcome → Command → Type 0
IsShownReadFor v s document outcome (Close job name) =
    IsTrue (is_behind_read outcome) → refusal_of s.state (events.Close (closing_of v.mime s.state document job name)) ≡ None → IsShownDocument v.device s job document
IsShownReadFor v s document outcome c = Unit {0}

abbrev pub IsShownReadIn : {D : Type 0} → Setting D → RunState D → CommandStep D → How D → Type 0
IsShownReadIn v s t (answered outcome) = IsShownReadFor v s.spool t.document outcome t.command
IsShownReadIn v s t (ran rs) = Unit {0}
IsShownReadIn v s t withheld = Unit {0}

-- ## A staged event

-- A staged event with this answer.
pub record IsStagedBy {D : Type 0} (device : DiskView D) (old : OpenSpool D) (e : Event) (answer : Result Reply ApplyFault) (new : OpenSpool D) : Type 0 where
  pub cause : IsAnswer device old e answer new
  pub counted : device.failures old.disk ≤ device.failures new.disk
  pub told : IsSome (device.bytes new.disk) ↔ IsSome (device.bytes old.disk)
  pub still : LeavesBefore device old new
  pub plain : IsPlainIfSettled device new
  pub sent : OnOk answer ((documents : Documents) → ShowsDocuments device documents old → ShowsDocuments device (documents_after_one old.state documents e) new)

-- A step over the spool whose event, if it has one, is staged. What is shown has the bytes that the event sends.
pub record IsStagedEvent {D : Type 0} (v : Setting D) (s : OpenSpool D) (t : EventStep D) : Type 0 where
  pub outcome : IsOutcome v s t t.outcome
  pub read : IsShownReadFor v s t.document t.outcome t.command
  pub counted : v.device.failures s.disk ≤ v.device.failures t.next.disk
  pub told : IsSome (v.device.bytes t.next.disk) ↔ IsSome (v.device.bytes s.disk)
  pub still : LeavesBefore v.device s t.next
  pub plain : IsPlainIfSettled v.device t.next
  pub sent : t.next.dead ≡ false → (documents : Documents) → ShowsDocuments v.device documents s →
      ShowsDocuments v.device (documents_after s.state documents (tried_as (event_of v.mime s.state t.document t.command) t.outcome)) t.next

-- A step of this command on the spool.
pub record StagesEvent {D : Type 0} (v : Setting D) (s : OpenSpool D) (c : Command) (t : EventStep D) (s' : OpenSpool D) : Type 0 where
  pub legal : IsStagedEvent v s t
  pub command : t.command ≡ c
  pub next : t.next ≡ s'

-- A step on the run state that it found. It is answered as if its event were durable, and no child is started or finished.
pub record IsStagedStep {D : Type 0} (v : Setting D) (s : RunState D) (t : CommandStep D) : Type 0 where
  pub how : IsHow v s t t.how
  pub held : IsHeld s t.next
  pub read : IsShownReadIn v s t t.how
  pub counted : v.device.failures s.spool.disk ≤ v.device.failures t.next.spool.disk
  pub told : IsSome (v.device.bytes t.next.spool.disk) ↔ IsSome (v.device.bytes s.spool.disk)
  pub still : LeavesBefore v.device s.spool t.next.spool
  pub plain : IsPlainIfSettled v.device t.next.spool
  pub sent : t.next.spool.dead ≡ false → (documents : Documents) → ShowsDocuments v.device documents s.spool →
      ShowsDocuments v.device (documents_left v.mime s documents t) t.next.spool

-- A step of this command.
pub record StagesStep {D : Type 0} (v : Setting D) (s : RunState D) (c : Command) (t : CommandStep D) (s' : RunState D) : Type 0 where
  pub legal : IsStagedStep v s t
  pub command : t.command ≡ c
  pub next : t.next ≡ s'

-- A command that can be staged: it runs no round and makes no checkpoint.
abbrev pub is_staged : Command → Bool
is_staged c = not (is_round c) && not (is_checkpoint c)

-- ## By the durability of the event

-- If the event is to be durable at once, nothing may be staged before.
abbrev pub MayApply : {D : Type 0} → Durability → OpenSpool D → Type 0
MayApply Durable s = NoneStaged s
MayApply Staged s = Unit {0}

abbrev pub IsFrontReadAs : {D : Type 0} → Durability → DiskView D → OpenSpool D → ℕ → ℕ → Result (List ℕ) Unread → OpenSpool D → Type 0
IsFrontReadAs Durable = IsFrontRead
IsFrontReadAs Staged = IsShownFrontRead

abbrev pub IsAppliedAs : {D : Type 0} → Durability → DiskView D → OpenSpool D → Event → Result Reply ApplyFault → OpenSpool D → Type 0
IsAppliedAs Durable = IsApplied
IsAppliedAs Staged = IsStagedBy

abbrev pub TakesAs : {D : Type 0} → Durability → Setting D → OpenSpool D → Command → EventStep D → OpenSpool D → Type 0
TakesAs Durable = Takes
TakesAs Staged = StagesEvent

abbrev pub TakesStepAs : {D : Type 0} → Durability → Setting D → RunState D → Command → CommandStep D → RunState D → Type 0
TakesStepAs Durable = TakesStep
TakesStepAs Staged = StagesStep

-- ## The settle

-- All staged events become durable together. A crash at any moment leaves the table without them or the one with all of them, each with its
-- documents. If the device works afterwards, a crash leaves what is shown.
pub record IsSettling {D : Type 0} (device : DiskView D) (old new : OpenSpool D) : Type 0 where
  pub state : new.state ≡ old.state
  pub room : new.room ≡ old.room
  pub epoch : new.epoch ≡ old.epoch
  pub died : IsTrue old.dead → new ≡ old
  pub none : NoneStaged old → new ≡ old
  pub lives : new.dead ≡ false → old.dead ≡ false
  pub settled : NoneStaged new
  pub counted : device.failures old.disk ≤ device.failures new.disk
  pub told : IsSome (device.bytes new.disk) ↔ IsSome (device.bytes old.disk)
  pub tables : old.dead ≡ false → (before : State) → HoldsTable device old.disk before →
      LeavesOnly device old.disk new.disk (HasBeforeOrAllEvents before old.state)
  pub documents : old.dead ≡ false → (before : State) (documents sent : Documents) → HoldsWhole device old.disk before documents → ShowsDocuments device sent old →
      LeavesOnly device old.disk new.disk (HasWholeBeforeOrAll before documents old.state sent)
  pub kept : IsKept device new
  pub sent : new.dead ≡ false → IsSome (device.bytes old.disk) → (documents : Documents) → ShowsDocuments device documents old → LeavesDocuments device documents new

-- The children are not concerned.
pub record SettlesTo {D : Type 0} (device : DiskView D) (s new : RunState D) : Type 0 where
  pub spool : IsSettling device s.spool new.spool
  pub held : IsHeld s new

-- ## The calls of an engine whose events can be staged

-- Nothing is staged in either.
abbrev pub AreSettled : {D : Type 0} → RunState D → RunState D → Type 0
AreSettled s next = NoneStaged s.spool × NoneStaged next.spool

-- A command is staged, or it needs durable events: then the staged events are settled, and it is executed.
abbrev pub IsStagingStep : {D : Type 0} → Setting D → RunState D → CommandStep D → Type 0
IsStagingStep {D} v s t = IsStagedStep v s t ⊎ ((mid : RunState D) × SettlesTo v.device s mid × AreSettled mid t.next × IsCommandStep v mid t)

-- A step of this command.
pub record TakesStagingStep {D : Type 0} (v : Setting D) (s : RunState D) (c : Command) (t : CommandStep D) (s' : RunState D) : Type 0 where
  pub legal : IsStagingStep v s t
  pub command : t.command ≡ c
  pub next : t.next ≡ s'

-- The staged events are settled, and then there is a tick.
abbrev pub IsStagingTick : {D : Type 0} → Setting D → RunState D → Ticked D → Type 0
IsStagingTick {D} v s t = (mid : RunState D) × SettlesTo v.device s mid × AreSettled mid t.next × IsTicked v mid t
