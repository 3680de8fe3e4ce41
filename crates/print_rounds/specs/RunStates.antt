-- The steps of a round, also if something failed.
use Rattle.std.specs.Prelude.{◌≡◌, ◌≤◌, ◌↔◌, ◌⊎◌, ℕ, Bool, ◌&&◌, nat_lt, true, false, List, [], ◌∷◌, length, map, IsSome, IsTrue, Option, None, Some, unwrap_or, Result, Ok, Err, OnOk, if◌then◌else◌}
use Rattle.std.specs.FinMap as finite
use Rattle.spool_disk.specs.Disk.{DiskView, Blames, ChangesNothing, LeavesOnly}
use Rattle.spool_types.specs.declared.event.Event.{Event}
use Rattle.spool_types.specs.declared.event.Event.TheVariants.{Start, Stage}
use Rattle.spool_types.specs.declared.event.Reply.{Reply}
use Rattle.spool_types.specs.declared.event.Reply.TheVariants as replies
use Rattle.spool_types.specs.declared.rows.QueueRow.{QueueRow}
use Rattle.spool_types.specs.Phases.{is_processing}
use Rattle.spool_types.specs.State.{State, Job, job_at, queue_at}
use Rattle.job_table.specs.Attempts.{next_of}
use Rattle.job_table.specs.DocumentLengths.{document_len}
use Rattle.job_table.specs.Step.{refusal_of}
use Rattle.spool_core.specs.Image.{HasDocument, HasDocuments, HasBeforeOrAfterEvent, HasWholeBeforeOrAfterEvent, documents_after_one}
use Rattle.spool_core.specs.OpenSpools.{OpenSpool, IsAnswer, IsSettled}
use Rattle.spool_core.specs.declared.spool.apply_fault.ApplyFault.{ApplyFault}
use Rattle.filter_args.specs.declared.place.Place.{Place}
use Rattle.child_pipeline.specs.ChildTraces.{ChildTrace}
use Rattle.child_pipeline.specs.StageSlots.{Slots, StartsStage, FinishesStage, order_in, end_in, advanced_in, slot_in, is_ready}
use Rattle.child_pipeline.specs.declared.runner.Progress.{Progress}
use Rattle.child_pipeline.specs.declared.runner.Progress.TheVariants.{Ready, Running, Ended}
use Rattle.child_pipeline.specs.declared.runner.Slot.{Slot}
use Rattle.print_rounds.specs.Choice.{slots_for}
use Rattle.print_rounds.specs.declared.outcome.Launch.{Launch}
use Rattle.print_rounds.specs.declared.outcome.Launch.TheVariants.{Unlaunched, Launched, NoMemory, Disk, Dead}
use Rattle.print_rounds.specs.declared.outcome.Report.{Report}
use Rattle.print_rounds.specs.declared.outcome.Report.TheVariants as reports

-- The state during a round: the spool, the slots, and the children's trace.
pub record RunState (D : Type 0) : Type 0 where
  pub spool : OpenSpool D
  pub slots : Slots
  pub told : Option ChildTrace

abbrev pub run_state : {D : Type 0} → OpenSpool D → Slots → Option ChildTrace → RunState D
run_state spool slots told = record { spool = spool; slots = slots; told = told }

-- The answer to an event.
abbrev pub Answer : Type 0
Answer = Result Reply ApplyFault

-- An event with its answer: the cause of the answer, and the result. Unless the device had failed before, a crash at any moment of it
-- leaves the table before the event or the one after it, with the documents of that moment. Nothing is staged afterwards.
pub record IsApplied {D : Type 0} (device : DiskView D) (old : OpenSpool D) (e : Event) (a : Answer) (new : OpenSpool D) : Type 0 where
  pub cause : IsAnswer device old e a new
  pub counted : device.failures old.disk ≤ device.failures new.disk
  pub told : IsSome (device.bytes new.disk) ↔ IsSome (device.bytes old.disk)
  pub crash : old.dead ≡ false → IsSome (device.bytes old.disk) → LeavesOnly device old.disk new.disk (HasBeforeOrAfterEvent old.state e)
  pub whole : old.dead ≡ false → (bytes : List ℕ) (documents : ℕ → List ℕ) → device.bytes old.disk ≡ Some bytes → HasDocuments old.state documents bytes →
      LeavesOnly device old.disk new.disk (HasWholeBeforeOrAfterEvent old.state documents e)
  pub sent : OnOk a ((bytes : List ℕ) (documents : ℕ → List ℕ) → device.bytes old.disk ≡ Some bytes → HasDocuments old.state documents bytes →
      (c : List ℕ) → device.image new.disk c → HasDocuments new.state (documents_after_one old.state documents e) c)
  pub settled : IsSettled new

-- First, each queue's next job is started. A queue without one has no answer, and no start is refused.
pub record Starting (D : Type 0) : Type 0 where
  pub queue : List ℕ
  pub answer : Option Answer
  pub next : OpenSpool D

abbrev pub IsStartingOf : {D : Type 0} → DiskView D → OpenSpool D → Option ℕ → Option Answer → OpenSpool D → Type 0
IsStartingOf device old None answer new = (answer ≡ None) × (new ≡ old)
IsStartingOf device old (Some j) None new = ⊥
IsStartingOf device old (Some j) (Some a) new = (refusal_of old.state (Start j) ≡ None) × IsApplied device old (Start j) a new

abbrev pub IsStarting : {D : Type 0} → DiskView D → OpenSpool D → Starting D → Type 0
IsStarting device old t = IsStartingOf device old (next_of old.state t.queue) t.answer t.next

abbrev pub AreStartings : {D : Type 0} → DiskView D → OpenSpool D → List (Starting D) → OpenSpool D → Type 0
AreStartings device old [] new = new ≡ old
AreStartings device old (t ∷ ts) new = IsStarting device old t × AreStartings device t.next ts new

-- Second, one stage of each processing job is started. `document` is the document that was read for it, if any.
pub record Launching : Type 0 where
  pub job : ℕ
  pub document : Option (List ℕ)
  pub launch : Launch
  pub slots : Slots
  pub told : Option ChildTrace

-- A job, its queue, and the slots for it. Its stage must be started.
pub record IsToStart (s : State) (slots : Slots) (j : ℕ) (r : Job) (q : QueueRow) (own : Slots) : Type 0 where
  pub row : job_at s j ≡ Some r
  pub queue : queue_at s r.queue ≡ Some q
  pub due : slots_for slots r ≡ Some own

-- Its stage must not be started.
abbrev pub IsToRest : State → Slots → ℕ → Type 0
IsToRest s slots j = (r : Job) (q : QueueRow) (own : Slots) → ¬ (IsToStart s slots j r q own)

-- The document read for a stage: for a first stage of the length that the table states, and none for a stage that has the output of the
-- previous one.
abbrev pub IsInput : Progress ℕ → ℕ → Option (List ℕ) → Type 0
IsInput (Ready None) len None = ⊥
IsInput (Ready None) len (Some document) = length document ≡ len
IsInput (Ready (Some output)) len document = document ≡ None
IsInput (Running n) len document = ⊥
IsInput (Ended finish) len document = ⊥

abbrev pub given : Option (List ℕ) → List ℕ
given document = unwrap_or document []

-- The stage of a job is started with its slot and its document. If the device fails at the document, nothing is started. If it had failed
-- before, nothing is done.
abbrev pub IsLaunch : Place → State → Slots → Option ChildTrace → ℕ → Option (List ℕ) → Launch → Slots → Option ChildTrace → Type 0
IsLaunch place s slots told j document Unlaunched new told' = IsToRest s slots j × (document ≡ None) × (new ≡ slots) × (told' ≡ told)
IsLaunch place s slots told j document (Launched started) new told' =
    (r : Job) × (q : QueueRow) × (own : Slots) × IsToStart s slots j r q own × IsInput (slot_in own r.id).progress (document_len r) document
    × StartsStage told (order_in place own r q (given document)) started own r.id new told'
IsLaunch place s slots told j document NoMemory new told' =
    (r : Job) × (q : QueueRow) × (own : Slots) × IsToStart s slots j r q own × ((new ≡ slots) ⊎ (new ≡ own)) × (told' ≡ told)
IsLaunch place s slots told j document Disk new told' =
    (r : Job) × (q : QueueRow) × (own : Slots) × IsToStart s slots j r q own × (document ≡ None) × (new ≡ own) × (told' ≡ told)
IsLaunch place s slots told j document Dead new told' = (document ≡ None) × (new ≡ slots) × (told' ≡ told)

abbrev pub AreLaunchings : Place → State → Slots → Option ChildTrace → List Launching → Slots → Option ChildTrace → Type 0
AreLaunchings place s slots told [] new told' = (new ≡ slots) × (told' ≡ told)
AreLaunchings place s slots told (t ∷ ts) new told' = IsLaunch place s slots told t.job t.document t.launch t.slots t.told × AreLaunchings place s t.slots t.told ts new told'

-- The effect of the start of a stage on the spool. A read changes neither the table nor the images that a crash leaves. If the device fails
-- at it, the spool is dead. If the disk reports its bytes, the document that is read is the one in the bytes.
pub record IsReadFor {D : Type 0} (device : DiskView D) (old : OpenSpool D) (j : ℕ) (document : Option (List ℕ)) (launch : Launch) (new : OpenSpool D) : Type 0 where
  pub state : new.state ≡ old.state
  pub room : new.room ≡ old.room
  pub epoch : new.epoch ≡ old.epoch
  pub held : new.held ≡ old.held
  pub disk : ChangesNothing device old.disk new.disk
  pub blames : Blames (device.failures old.disk) (device.failures new.disk) (launch ≡ Disk)
  pub dies : IsTrue new.dead ↔ (IsTrue old.dead ⊎ (launch ≡ Disk))
  pub dead : (launch ≡ Dead) ↔ IsTrue old.dead
  pub over : IsTrue old.dead → new ≡ old
  pub unread : document ≡ None → ¬ (launch ≡ Disk) → new ≡ old
  pub own : (read bytes kept : List ℕ) → document ≡ Some read → device.bytes old.disk ≡ Some bytes → HasDocument j kept bytes → read ≡ kept

-- The reads for these starts, in order.
abbrev pub AreReads : {D : Type 0} → DiskView D → OpenSpool D → List Launching → OpenSpool D → Type 0
AreReads device old [] new = new ≡ old
AreReads {D} device old (t ∷ ts) new = (next : OpenSpool D) × IsReadFor device old t.job t.document t.launch next × AreReads device next ts new

-- Each document that was read is its job's.
abbrev pub AreHanded : (ℕ → List ℕ) → List Launching → Type 0
AreHanded documents [] = Unit {0}
AreHanded documents (t ∷ ts) = ((read : List ℕ) → t.document ≡ Some read → read ≡ documents t.job) × AreHanded documents ts

-- Third, each child is finished, its finish is stored, and the event of its end is applied. `kept` is the state between the last two.
pub record Ending (D : Type 0) : Type 0 where
  pub job : ℕ
  pub kept : RunState D
  pub report : Report
  pub next : RunState D

-- The job has neither a child to be finished nor a stored finish.
abbrev pub is_silent : Option (Slot ℕ) → Bool
is_silent None = true
is_silent (Some slot) = is_ready slot.progress

-- An attempt that continues with its next stage retains its output. Otherwise the slot is freed.
abbrev pub moved_by : Slots → ℕ → Reply → Slots
moved_by slots j replies.Done = finite.remove slots j
moved_by slots j (replies.Number n) = finite.remove slots j
moved_by slots j (replies.Size n) = finite.remove slots j
moved_by slots j (replies.Phase p) = (if is_processing p && nat_lt (slot_in slots j).stage 16 then advanced_in slots j else finite.remove slots j)

-- If the event was not applied, the slot retains the finish.
abbrev pub moved : Slots → ℕ → Answer → Slots
moved slots j (Ok reply) = moved_by slots j reply
moved slots j (Err fault) = slots

abbrev pub IsReport : {D : Type 0} → DiskView D → RunState D → ℕ → Report → RunState D → Type 0
IsReport device old j reports.Silent new = ⊥
IsReport device old j reports.NoMemory new = new ≡ old
IsReport device old j (reports.Answered a) new =
    IsApplied device old.spool (Stage (end_in old.slots j)) a new.spool × (new.slots ≡ moved old.slots j a) × (new.told ≡ old.told)

abbrev pub IsEndingOf : {D : Type 0} → DiskView D → RunState D → Bool → Ending D → Type 0
IsEndingOf device old true t = (t.report ≡ reports.Silent) × (t.kept ≡ old) × (t.next ≡ old)
IsEndingOf device old false t =
    FinishesStage old.told old.slots t.job t.kept.slots t.kept.told × (t.kept.spool ≡ old.spool) × IsReport device t.kept t.job t.report t.next

abbrev pub IsEnding : {D : Type 0} → DiskView D → RunState D → Ending D → Type 0
IsEnding device old t = IsEndingOf device old (is_silent (finite.get old.slots t.job)) t

abbrev pub AreEndings : {D : Type 0} → DiskView D → RunState D → List (Ending D) → RunState D → Type 0
AreEndings device old [] new = new ≡ old
AreEndings device old (t ∷ ts) new = IsEnding device old t × AreEndings device t.next ts new

-- One stage of each of these jobs: all are started, then each is finished.
pub record IsRunOfStages {D : Type 0} (device : DiskView D) (place : Place) (old : RunState D) (jobs : List ℕ) (new : RunState D) : Type 0 where
  pub slots : Slots
  pub told : Option ChildTrace
  pub launchings : List Launching
  pub endings : List (Ending D)
  pub starts : AreLaunchings place old.spool.state old.slots old.told launchings slots told
  pub started : map (λ t. t.job) launchings ≡ jobs
  -- The spool after the reads.
  pub read : OpenSpool D
  pub reads : AreReads device old.spool launchings read
  pub ends : AreEndings device (run_state read slots told) endings new
  pub ended : map (λ e. e.job) endings ≡ jobs
