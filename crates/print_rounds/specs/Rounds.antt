-- A whole round: its steps, its result, the effect of a crash, and the round if nothing failed.
use Rattle.std.specs.Prelude.{◌≡◌, ◌≤◌, ◌⊎◌, ℕ, Bool, true, false, List, [], ◌++◌, length, map, take, IsSome, Option, None, Some, Result, Err}
use Rattle.std.specs.FinMap as finite
use Rattle.std.specs.Option.{option_or}
use Rattle.spool_disk.specs.Disk.{DiskView, LeavesOnly}
use Rattle.spool_types.specs.declared.event.Event.{Event}
use Rattle.spool_types.specs.State.{State}
use Rattle.job_table.specs.EventFold.{AreAccepted, after_all}
use Rattle.spool_core.specs.Driving.{HasPrefixTable}
use Rattle.spool_core.specs.Image.{HasDocuments, HasWhole}
use Rattle.spool_core.specs.OpenSpools.{OpenSpool}
use Rattle.filter_args.specs.declared.place.Place.{Place}
use Rattle.child_pipeline.specs.StageSlots.{Slots}
use Rattle.child_pipeline.specs.ChildTraces.{ChildTrace}
use Rattle.print_rounds.specs.Choice.{busy_jobs}
use Rattle.print_rounds.specs.RunStates.{RunState, run_state, Starting, AreStartings, Launching, Ending, AreLaunchings, AreReads, AreHanded, AreEndings}
use Rattle.print_rounds.specs.Counts.{AreAcknowledged, starting_fault, stages_fault, counts_of, started_in, told_in, result_of, starting_events, ending_events, starting_tried, ending_tried}
use Rattle.print_rounds.specs.Finished.{AreDistinct}
use Rattle.print_rounds.specs.RoundScript.{Play, current_slots, round_of}
use Rattle.print_rounds.specs.StageHistory.{IsStageCall}
use Rattle.print_rounds.specs.declared.outcome.Round.{Round}
use Rattle.print_rounds.specs.declared.outcome.RoundFault.{RoundFault}
use Rattle.print_rounds.specs.declared.outcome.RoundFault.TheVariants as ends

-- The table after the first of these events, some or all.
abbrev pub HasSomeOf : State → List Event → List ℕ → Type 0
HasSomeOf s events image = HasPrefixTable s events 0 (length events) image

-- The same with these documents: none of the events sends anything.
abbrev pub HasSomeWhole : State → (ℕ → List ℕ) → List Event → List ℕ → Type 0
HasSomeWhole s documents events image = (k : ℕ) × (k ≤ length events) × HasWhole (after_all s (take k events)) documents image

-- A crash leaves these documents.
abbrev pub LeavesDocuments : {D : Type 0} → DiskView D → (ℕ → List ℕ) → OpenSpool D → Type 0
LeavesDocuments device documents s = (c : List ℕ) → device.image s.disk c → HasDocuments s.state documents c

-- The steps of a round: the slots that are not current are freed, the next jobs are started and, unless the device has failed by then, a
-- stage of each processing job is run.
pub record RoundSteps (D : Type 0) : Type 0 where
  pub startings : List (Starting D)
  pub mid : OpenSpool D
  pub launchings : List Launching
  -- After the last start of a stage.
  pub read : OpenSpool D
  pub slots : Slots
  pub told : Option ChildTrace
  pub endings : List (Ending D)

-- The jobs with a stage that is run: none after a device error, otherwise each processing job, in the order of the queues.
abbrev pub jobs_run : {D : Type 0} → OpenSpool D → Bool → List ℕ
jobs_run s true = []
jobs_run s false = busy_jobs s.state (finite.keys s.state.queues)

pub record IsRound {D : Type 0} (device : DiskView D) (place : Place) (old : RunState D) (steps : RoundSteps D) (new : RunState D) : Type 0 where
  pub starts : AreStartings device old.spool steps.startings steps.mid
  pub queues : map (λ t. t.queue) steps.startings ≡ finite.keys old.spool.state.queues
  pub launches : AreLaunchings place steps.mid.state (current_slots old.spool.state old.slots) old.told steps.launchings steps.slots steps.told
  pub reads : AreReads device steps.mid steps.launchings steps.read
  pub launched : map (λ t. t.job) steps.launchings ≡ jobs_run steps.mid steps.mid.dead
  pub once : AreDistinct (map (λ t. t.job) steps.launchings)
  pub ends : AreEndings device (run_state steps.read steps.slots steps.told) steps.endings new
  pub ended : map (λ e. e.job) steps.endings ≡ jobs_run steps.mid steps.mid.dead

-- The first fault in time.
abbrev pub fault_in : {D : Type 0} → RoundSteps D → Option RoundFault
fault_in steps = option_or (starting_fault steps.startings) (stages_fault steps.launchings steps.endings)

-- The events acknowledged in a round.
abbrev pub events_in : {D : Type 0} → RunState D → RoundSteps D → List Event
events_in old steps = starting_events old.spool steps.startings ++ ending_events steps.endings

-- The events tried in a round: the acknowledged ones, followed by the one at which the device failed, if it did.
abbrev pub tried_in : {D : Type 0} → RunState D → RoundSteps D → List Event
tried_in old steps = starting_tried old.spool steps.startings ++ ending_tried steps.endings

-- The round is Script's. Children that report still report.
pub record IsScriptRound {D : Type 0} (old : RunState D) (steps : RoundSteps D) (new : RunState D) (p : Play) : Type 0 where
  pub state : new.spool.state ≡ p.state
  pub slots : new.slots ≡ p.slots
  pub told : new.told ≡ Some p.told
  pub events : events_in old steps ≡ p.events
  pub started : started_in steps.launchings ≡ p.started
  pub ended : told_in steps.endings ≡ p.ended

pub record IsRoundOf {D : Type 0} (device : DiskView D) (place : Place) (old new : RunState D) (result : Result Round RoundFault) : Type 0 where
  pub steps : RoundSteps D
  pub made : IsRound device place old steps new
  pub answer : result ≡ result_of (counts_of steps.launchings steps.endings) (fault_in steps)
  -- The events acknowledged in it are accepted in order, and the table is the one after them.
  pub accepted : AreAccepted old.spool.state (events_in old steps)
  pub table : new.spool.state ≡ after_all old.spool.state (events_in old steps)
  -- Unless the device had failed before, a crash at any moment of the round leaves the table after the first of the events that were tried,
  -- some or all.
  pub any_moment : old.spool.dead ≡ false → IsSome (device.bytes old.spool.disk) →
      LeavesOnly device old.spool.disk new.spool.disk (HasSomeOf old.spool.state (tried_in old steps))
  -- The documents stay as they are, at any moment and, while the device works, at the end.
  pub any_whole : old.spool.dead ≡ false → IsSome (device.bytes old.spool.disk) → (documents : ℕ → List ℕ) → LeavesDocuments device documents old.spool →
      LeavesOnly device old.spool.disk new.spool.disk (HasSomeWhole old.spool.state documents (tried_in old steps))
  pub lasting : new.spool.dead ≡ false → IsSome (device.bytes old.spool.disk) → (documents : ℕ → List ℕ) → LeavesDocuments device documents old.spool →
      LeavesDocuments device documents new.spool
  -- A round without a fault leaves a device that works.
  pub works : fault_in steps ≡ None → old.spool.dead ≡ false → new.spool.dead ≡ false
  -- While the device works, every event that was tried was acknowledged.
  pub all_acknowledged : new.spool.dead ≡ false → tried_in old steps ≡ events_in old steps
  -- Otherwise all except the one in progress.
  pub in_hand : AreAcknowledged new.spool.dead (tried_in old steps) (events_in old steps)
  -- If the children report, it is a call of a StageHistory.
  pub turn : (t : ChildTrace) → old.told ≡ Some t → t.running ≡ [] → IsStageCall t old (events_in old steps) new
  -- The documents that were read are jobs' documents. If the disk reports its bytes, they are the documents in the bytes.
  pub read : (documents : ℕ → List ℕ) × AreHanded documents steps.launchings
  pub handed : (bytes : List ℕ) (documents : ℕ → List ℕ) → device.bytes old.spool.disk ≡ Some bytes → HasDocuments old.spool.state documents bytes → AreHanded documents steps.launchings
  -- If nothing failed and the children report, it is Script's round with the documents that were read.
  pub exact : fault_in steps ≡ None → (t : ChildTrace) (documents : ℕ → List ℕ) → old.told ≡ Some t → t.running ≡ [] → AreHanded documents steps.launchings →
      IsScriptRound old steps new (round_of place documents old.spool.state old.slots t)

-- If the list of the jobs runs out of memory, nothing is done.
abbrev pub IsUnbegun : {D : Type 0} → RunState D → RunState D → Result Round RoundFault → Type 0
IsUnbegun old new result = (result ≡ Err ends.Memory) × (new ≡ old)

-- A spool that has met a device error does nothing.
abbrev pub IsRoundBy : {D : Type 0} → DiskView D → Place → RunState D → Bool → RunState D → Result Round RoundFault → Type 0
IsRoundBy device place old true new result = (result ≡ Err ends.Dead) × (new ≡ old)
IsRoundBy device place old false new result = IsUnbegun old new result ⊎ IsRoundOf device place old new result
