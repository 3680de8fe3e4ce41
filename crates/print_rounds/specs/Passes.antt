-- The common part of a round and a tick: a pass over the queues, step by step.
use Rattle.std.specs.Prelude.{◌≡◌, ◌⊎◌, ℕ, Bool, true, false, cond, List, [], ◌∷◌, map, Option, Result, Err}
use Rattle.std.specs.FinMap as finite
use Rattle.spool_disk.specs.Disk.{DiskView}
use Rattle.spool_core.specs.OpenSpools.{OpenSpool}
use Rattle.filter_args.specs.declared.place.Place.{Place}
use Rattle.child_pipeline.specs.StageSlots.{Slots}
use Rattle.child_pipeline.specs.ChildTraces.{ChildTrace}
use Rattle.print_rounds.specs.declared.start_room.StartRoom.{StartRoom}
use Rattle.print_rounds.specs.Counts.{counts_of, result_of}
use Rattle.print_rounds.specs.RunStates.{RunState, run_state, AreStartings, AreLaunchings, AreReads, AreEndings}
use Rattle.print_rounds.specs.StageChecks.{Look, AreLooks, Dropping, AreDroppings, ripe_in, idle_slots, tended_jobs, idle_among, strays}
use Rattle.print_rounds.specs.StartLimits.{AreChosen, rotated}
use Rattle.print_rounds.specs.Rounds.{RoundSteps, IsUnbegun, fault_in}
use Rattle.print_rounds.specs.declared.outcome.Round.{Round}
use Rattle.print_rounds.specs.declared.outcome.RoundFault.{RoundFault}
use Rattle.print_rounds.specs.declared.outcome.RoundFault.TheVariants as ends

-- The steps of a round, with the checks between the starts of stages and their ends, and the steps after the ends.
pub record PassSteps (D : Type 0) : Type 0 where
  pub parts : RoundSteps D
  pub looks : List Look
  -- The trace after the checks.
  pub looked : Option ChildTrace
  -- After the last end of a stage.
  pub ended : RunState D
  pub droppings : List Dropping

-- The queues that are not blocked.
abbrev pub unblocked : List Bool → List (List ℕ) → List (List ℕ)
unblocked [] names = []
unblocked (blocked ∷ flags) [] = []
unblocked (blocked ∷ flags) (name ∷ names) = cond blocked (unblocked flags names) (name ∷ unblocked flags names)

-- The jobs whose stages are run: none after a device error.
abbrev pub jobs_tended : {D : Type 0} → OpenSpool D → Bool → Slots → List ℕ
jobs_tended s true slots = []
jobs_tended s false slots = tended_jobs s.state slots (finite.keys s.state.queues)

abbrev pub jobs_left : {D : Type 0} → Bool → RunState D → List ℕ
jobs_left true c = []
jobs_left false c = strays c.spool.state c.slots

-- The slots that neither are current nor have a running child are freed. The next job of each chosen free queue is started, and then a
-- stage of each chosen processing job without a running child. Each running child is checked or waited for. The ends of those that have
-- ended are reported, and the ends whose finish is stored. The children whose jobs have left their stages come last. If the device fails at
-- the start of a job, nothing follows.
pub record IsPass {D : Type 0} (device : DiskView D) (place : Place) (waits : Bool) (start_room : Option StartRoom) (old : RunState D) (steps : PassSteps D) (new : RunState D) : Type 0 where
  pub starts : AreStartings device old.spool steps.parts.startings steps.parts.mid
  pub queues : AreChosen start_room old.spool.state (idle_slots old.spool.state old.slots) (map (λ t. t.queue) steps.parts.startings)
  pub launches : AreLaunchings place steps.parts.mid.state (idle_slots old.spool.state old.slots) old.told steps.parts.launchings steps.parts.slots steps.parts.told
  pub reads : AreReads device steps.parts.mid steps.parts.launchings steps.parts.read
  pub launched : map (λ t. t.job) steps.parts.launchings ≡
      rotated start_room (idle_among (idle_slots old.spool.state old.slots) (jobs_tended steps.parts.mid steps.parts.mid.dead (idle_slots old.spool.state old.slots)))
  pub looks : AreLooks waits steps.parts.slots steps.parts.told steps.looks steps.looked
  pub seen : map (λ l. l.job) steps.looks ≡ jobs_tended steps.parts.mid steps.parts.mid.dead (idle_slots old.spool.state old.slots)
  pub ends : AreEndings device (run_state steps.parts.read steps.parts.slots steps.looked) steps.parts.endings steps.ended
  pub told : map (λ e. e.job) steps.parts.endings ≡ ripe_in steps.looks
  pub drops : AreDroppings waits steps.ended.slots steps.ended.told steps.droppings new.slots new.told
  pub left : map (λ d. d.look.job) steps.droppings ≡ jobs_left steps.parts.mid.dead steps.ended
  pub spool : new.spool ≡ steps.ended.spool

-- A pass and its result.
pub record IsPassed {D : Type 0} (device : DiskView D) (place : Place) (waits : Bool) (start_room : Option StartRoom) (old new : RunState D) (result : Result Round RoundFault) : Type 0 where
  pub steps : PassSteps D
  pub made : IsPass device place waits start_room old steps new
  pub answer : result ≡ result_of (counts_of steps.parts.launchings steps.parts.endings) (fault_in steps.parts)

abbrev pub IsPassBy : {D : Type 0} → DiskView D → Place → Bool → Option StartRoom → RunState D → Bool → RunState D → Result Round RoundFault → Type 0
IsPassBy device place waits start_room old true new result = (result ≡ Err ends.Dead) × (new ≡ old)
IsPassBy device place waits start_room old false new result = IsUnbegun old new result ⊎ IsPassed device place waits start_room old new result
