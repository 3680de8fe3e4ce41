-- A tick: a round that waits for no child.
use Rattle.std.specs.Prelude.{◌≡◌, ◌≤◌, ◌⊎◌, ℕ, ◌+◌, length, Bool, true, false, cond, List, [], ◌∷◌, IsSome, IfSome, Option, None, Some, Result, Err}
use Rattle.std.specs.List.{filter}
use Rattle.std.specs.FinMap as finite
use Rattle.spool_disk.specs.Disk.{DiskView, LeavesOnly}
use Rattle.spool_types.specs.State.{State}
use Rattle.job_table.specs.EventFold.{AreAccepted, after_all}
use Rattle.spool_core.specs.Image.{HasDocuments}
use Rattle.filter_args.specs.declared.place.Place.{Place}
use Rattle.child_pipeline.specs.StageSlots.{Slots, FinishesStage}
use Rattle.child_pipeline.specs.Tickets.{HasTickets, AreKeptBy}
use Rattle.child_pipeline.specs.ChildTraces.{ChildTrace, looks_next, after_look}
use Rattle.print_rounds.specs.declared.start_room.StartRoom.{StartRoom}
use Rattle.print_rounds.specs.RunStates.{RunState, AreHanded}
use Rattle.print_rounds.specs.Counts.{AreAcknowledged, counts_of, started_in, result_of}
use Rattle.print_rounds.specs.StageChecks.{idle_slots, free_queues, tended_jobs, idle_among, runs, strays}
use Rattle.print_rounds.specs.Passes.{PassSteps, IsPass}
use Rattle.print_rounds.specs.StartLimits.{HasStartRoomFor, IsRoomWithin, room_within}
use Rattle.print_rounds.specs.declared.start_room.TickLimits.{TickLimits}
use Rattle.print_rounds.specs.Rounds.{HasSomeOf, HasSomeWhole, LeavesDocuments, IsScriptRound, IsUnbegun, events_in, tried_in, fault_in}
use Rattle.print_rounds.specs.RoundScript.{Play, plays, play_start, play_launch, play_end, play_from, waited}
use Rattle.print_rounds.specs.StageHistory.{IsStageCall}
use Rattle.print_rounds.specs.declared.outcome.Round.{Round}
use Rattle.print_rounds.specs.declared.outcome.RoundFault.{RoundFault}
use Rattle.print_rounds.specs.declared.outcome.RoundFault.TheVariants as ends

-- ## Script's tick: what a tick does if nothing fails

-- Whether an end is reported now, and the trace after that: for a running child the next check decides.
abbrev pub ripe_by : Bool → ChildTrace → Bool
ripe_by true t = looks_next t
ripe_by false t = true

abbrev pub looked_by : Bool → ChildTrace → ChildTrace
looked_by true t = after_look t
looked_by false t = t

-- The jobs whose ends are reported now, and the trace after the checks of all of them.
abbrev pub ripe_among : Slots → ChildTrace → List ℕ → List ℕ
ripe_among slots t [] = []
ripe_among slots t (j ∷ js) =
    cond (ripe_by (runs slots j) t) (j ∷ ripe_among slots (looked_by (runs slots j) t) js) (ripe_among slots (looked_by (runs slots j) t) js)

abbrev pub looked_among : Slots → ChildTrace → List ℕ → ChildTrace
looked_among slots t [] = t
looked_among slots t (j ∷ js) = looked_among slots (looked_by (runs slots j) t) js

-- The children of these jobs are checked, then those that have ended are finished, and their ends reported.
abbrev pub play_ripe : Play → List ℕ → Play
play_ripe p js = plays play_end (record p { told = looked_among p.slots p.told js }) (ripe_among p.slots p.told js)

-- The stages of the jobs without a running child are started, and the ends of all that have ended are reported.
abbrev pub play_tended : Place → (ℕ → List ℕ) → Play → List ℕ → Play
play_tended place documents p js = play_ripe (plays (play_launch place documents) p (idle_among p.slots js)) js

-- A child that has ended, and whose job has left its stage, is finished, and its slot freed.
abbrev pub dropped_if : Bool → Play → ℕ → Play
dropped_if false p j = p
dropped_if true p j = record (waited p j) { slots = finite.remove p.slots j }

abbrev pub play_drop : Play → ℕ → Play
play_drop p j = dropped_if (ripe_by (runs p.slots j) p.told) (record p { told = looked_by (runs p.slots j) p.told }) j

abbrev pub drop_strays : Play → Play
drop_strays p = plays play_drop p (strays p.state p.slots)

abbrev pub tend_queues : Place → (ℕ → List ℕ) → Play → List (List ℕ) → Play
tend_queues place documents p queues = play_tended place documents p (tended_jobs p.state p.slots queues)

-- Script's tick for jobs with these documents, over the queues in ascending order of name.
abbrev pub tick_of : Place → (ℕ → List ℕ) → State → Slots → ChildTrace → Play
tick_of place documents s slots told =
    drop_strays (tend_queues place documents (plays play_start (play_from s (idle_slots s slots) told) (free_queues s (idle_slots s slots))) (finite.keys s.queues))

-- ## A tick, also if something fails

-- The jobs with running children, in ascending order of number.
abbrev pub running_jobs : Slots → List ℕ
running_jobs slots = filter (runs slots) (finite.keys slots)

-- The number of running children.
abbrev pub count_running : Slots → ℕ
count_running slots = length (running_jobs slots)

pub record IsTickOf {D : Type 0} (device : DiskView D) (place : Place) (limits : Option TickLimits) (old new : RunState D) (result : Result Round RoundFault) : Type 0 where
  -- How many children may be started. For children that report, the limits alone bound the starts.
  pub start_room : Option StartRoom
  pub within : IsRoomWithin limits (count_running old.slots) start_room
  pub always : IsSome old.told → (first : ℕ) × (start_room ≡ room_within limits (count_running old.slots) first None)
  pub steps : PassSteps D
  pub made : IsPass device place false start_room old steps new
  pub few : HasStartRoomFor start_room (length steps.parts.launchings)
  -- No more children run than may at once.
  pub most : IfSome limits (λ l. count_running old.slots ≤ l.most → count_running new.slots ≤ l.most)
  pub answer : result ≡ result_of (counts_of steps.parts.launchings steps.parts.endings) (fault_in steps.parts)
  -- The events acknowledged in it are accepted in order, and the table is the one after them.
  pub accepted : AreAccepted old.spool.state (events_in old steps.parts)
  pub table : new.spool.state ≡ after_all old.spool.state (events_in old steps.parts)
  -- Unless the device had failed before, a crash at any moment leaves the table after the first of the events that were tried, some or all,
  -- with the documents as they are.
  pub any_moment : old.spool.dead ≡ false → IsSome (device.bytes old.spool.disk) →
      LeavesOnly device old.spool.disk new.spool.disk (HasSomeOf old.spool.state (tried_in old steps.parts))
  pub any_whole : old.spool.dead ≡ false → IsSome (device.bytes old.spool.disk) → (documents : ℕ → List ℕ) → LeavesDocuments device documents old.spool →
      LeavesOnly device old.spool.disk new.spool.disk (HasSomeWhole old.spool.state documents (tried_in old steps.parts))
  pub lasting : new.spool.dead ≡ false → IsSome (device.bytes old.spool.disk) → (documents : ℕ → List ℕ) → LeavesDocuments device documents old.spool →
      LeavesDocuments device documents new.spool
  -- A tick without a fault leaves a device that works.
  pub works : fault_in steps.parts ≡ None → old.spool.dead ≡ false → new.spool.dead ≡ false
  -- While the device works, every event that was tried was acknowledged; otherwise all except the one in progress.
  pub all_acknowledged : new.spool.dead ≡ false → tried_in old steps.parts ≡ events_in old steps.parts
  pub in_hand : AreAcknowledged new.spool.dead (tried_in old steps.parts) (events_in old steps.parts)
  -- If the children report, each child that was started or ran before runs or was finished once, and the tick is a call of a StageHistory.
  pub tickets : (t : ChildTrace) → old.told ≡ Some t → HasTickets old.slots t → AreKeptBy t (started_in steps.parts.launchings) new.slots new.told
  pub turn : (t : ChildTrace) → old.told ≡ Some t → HasTickets old.slots t → IsStageCall t old (events_in old steps.parts) new
  -- The documents that were read are jobs' documents. If the disk reports its bytes, they are the documents in the bytes.
  pub read : (documents : ℕ → List ℕ) × AreHanded documents steps.parts.launchings
  pub handed : (bytes : List ℕ) (documents : ℕ → List ℕ) → device.bytes old.spool.disk ≡ Some bytes → HasDocuments old.spool.state documents bytes → AreHanded documents steps.parts.launchings
  -- If there is room for each queue, nothing failed and the children report, it is Script's tick with the documents that were read.
  pub exact : HasStartRoomFor start_room (length (finite.keys old.spool.state.queues)) → fault_in steps.parts ≡ None → (t : ChildTrace) (documents : ℕ → List ℕ) → old.told ≡ Some t → HasTickets old.slots t → AreHanded documents steps.parts.launchings →
      IsScriptRound old steps.parts new (tick_of place documents old.spool.state old.slots t)

-- A spool that has met a device error does nothing.
abbrev pub IsTickBy : {D : Type 0} → DiskView D → Place → Option TickLimits → RunState D → Bool → RunState D → Result Round RoundFault → Type 0
IsTickBy device place limits old true new result = (result ≡ Err ends.Dead) × (new ≡ old)
IsTickBy device place limits old false new result = IsUnbegun old new result ⊎ IsTickOf device place limits old new result

-- A tick that uses the room that the children were asked for.
abbrev pub IsTickAsked : {D : Type 0} → (Option StartRoom → Type 0) → DiskView D → Place → Option TickLimits → RunState D → Bool → RunState D → Result Round RoundFault → Type 0
IsTickAsked asked device place limits old true new result = (result ≡ Err ends.Dead) × (new ≡ old)
IsTickAsked asked device place limits old false new result = IsUnbegun old new result ⊎ ((made : IsTickOf device place limits old new result) × asked made.start_room)

-- ## At the end

-- A child is finished, and its finish stored in its slot.
pub record Finishing : Type 0 where
  pub job : ℕ
  pub slots : Slots
  pub told : Option ChildTrace

abbrev pub AreFinishings : Slots → Option ChildTrace → List Finishing → Slots → Option ChildTrace → Type 0
AreFinishings slots told [] new told' = (new ≡ slots) × (told' ≡ told)
AreFinishings slots told (f ∷ fs) new told' = FinishesStage told slots f.job f.slots f.told × AreFinishings f.slots f.told fs new told'

-- No child is running, and each that ran was finished once.
pub record IsFinishedOff (t : ChildTrace) (told : Option ChildTrace) : Type 0 where
  pub now : ChildTrace
  pub tells : told ≡ Some now
  pub none : now.running ≡ []
  pub finished : now.finished ≡ t.finished + length t.running
  pub orders : now.orders ≡ t.orders
