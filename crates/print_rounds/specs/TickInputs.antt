-- RightInput over ticks: the answers in a pass may be to orders of earlier passes, and come in another order.
use Rattle.std.specs.Prelude.{◌≡◌, ℕ, true, false, cond, List, [], ◌∷◌, ◌++◌, length, map, drop, slice_get, Option, None, Some, Result}
use Rattle.std.specs.FinMap as finite
use Rattle.spool_disk.specs.Disk.{DiskView}
use Rattle.job_table.specs.Legal.{IsLegal}
use Rattle.job_table.specs.Stages.{Key}
use Rattle.filter_args.specs.declared.place.Place.{Place}
use Rattle.child_pipeline.specs.StageSlots.{Slots}
use Rattle.child_pipeline.specs.Tickets.{HasTickets}
use Rattle.child_pipeline.specs.ChildTraces.{ChildTrace, first_finish}
use Rattle.child_pipeline.specs.declared.order.Finish.{Finish}
use Rattle.child_pipeline.specs.declared.order.Placed.{Placed}
use Rattle.child_pipeline.specs.declared.runner.Progress.{Progress}
use Rattle.child_pipeline.specs.declared.runner.Progress.TheVariants.{Ready, Running, Ended}
use Rattle.child_pipeline.specs.declared.runner.Slot.{Slot}
use Rattle.print_rounds.specs.RunStates.{RunState, run_state, Launching, AreHanded, Ending}
use Rattle.print_rounds.specs.Inputs.{AnsweredOrder, IsRight, HaveDocuments, AreKeptFrom}
use Rattle.print_rounds.specs.StageChecks.{Dropping}
use Rattle.print_rounds.specs.Passes.{PassSteps}
use Rattle.print_rounds.specs.RoundTicks.{IsTickOf, Finishing}
use Rattle.print_rounds.specs.declared.start_room.TickLimits.{TickLimits}
use Rattle.print_rounds.specs.StageHistory.{key_in}
use Rattle.print_rounds.specs.declared.outcome.Launch.{Launch}
use Rattle.print_rounds.specs.declared.outcome.Launch.TheVariants.{Unlaunched, Launched, NoMemory, Disk, Dead}
use Rattle.print_rounds.specs.declared.outcome.Round.{Round}
use Rattle.print_rounds.specs.declared.outcome.RoundFault.{RoundFault}

-- ## Which stage a child runs

-- The order with this number is for that stage.
pub record IsOrderFor (orders : List Placed) (n : ℕ) (k : Key) : Type 0 where
  pub order : Placed
  pub there : slice_get orders n ≡ Some order
  pub key : key_in order ≡ k

-- The child in a slot was ordered for the stage of the slot.
abbrev pub RunTheirStages : List Placed → Slots → Type 0
RunTheirStages orders slots = (j n : ℕ) (slot : Slot ℕ) → finite.get slots j ≡ Some slot → slot.progress ≡ Running n →
    IsOrderFor orders n (record { job = j; attempt = slot.attempt; stage = slot.stage })

-- ## The answers in a pass

abbrev pub orders_of : Option ChildTrace → List Placed
orders_of None = []
orders_of (Some t) = t.orders

-- The orders that were given between these two.
abbrev pub orders_since : Option ChildTrace → Option ChildTrace → List Placed
orders_since told told' = drop (length (orders_of told)) (orders_of told')

abbrev pub unstarted : Placed → AnsweredOrder
unstarted p = record { order = p.order; finish = None }

-- If the child of a stage could not be started, its order is answered at once.
abbrev pub refused_by : Launch → List Placed → List AnsweredOrder
refused_by (Launched true) ps = []
refused_by (Launched false) ps = map unstarted ps
refused_by Unlaunched ps = []
refused_by NoMemory ps = []
refused_by Disk ps = []
refused_by Dead ps = []

abbrev pub refused_in : Option ChildTrace → List Launching → List AnsweredOrder
refused_in told [] = []
refused_in told (l ∷ ls) = refused_by l.launch (orders_since told l.told) ++ refused_in l.told ls

abbrev pub answer_to : Option Placed → Option Finish → List AnsweredOrder
answer_to None finish = []
answer_to (Some p) finish = record { order = p.order; finish = finish } ∷ []

-- The answer to the order with this number, when its child is finished.
abbrev pub answer_of : ℕ → Option ChildTrace → List AnsweredOrder
answer_of n None = []
answer_of n (Some t) = answer_to (slice_get t.orders n) (first_finish t.finishes)

-- A stored finish was answered before.
abbrev pub answer_by : Progress ℕ → Option ChildTrace → List AnsweredOrder
answer_by (Ready input) told = []
answer_by (Running n) told = answer_of n told
answer_by (Ended finish) told = []

-- The answer when the job's child is finished.
abbrev pub answer_at : Option (Slot ℕ) → Option ChildTrace → List AnsweredOrder
answer_at None told = []
answer_at (Some slot) told = answer_by slot.progress told

abbrev pub ended_in : {D : Type 0} → RunState D → List (Ending D) → List AnsweredOrder
ended_in old [] = []
ended_in old (e ∷ es) = answer_at (finite.get old.slots e.job) old.told ++ ended_in e.next es

abbrev pub dropped_in : Slots → Option ChildTrace → List Dropping → List AnsweredOrder
dropped_in slots told [] = []
dropped_in slots told (d ∷ ds) = cond d.look.ripe (answer_at (finite.get slots d.look.job) d.look.told) [] ++ dropped_in d.slots d.told ds

-- All answers, in order.
abbrev pub answers_in : {D : Type 0} → RunState D → PassSteps D → List AnsweredOrder
answers_in old steps =
    refused_in old.told steps.parts.launchings
    ++ ended_in (run_state steps.parts.read steps.parts.slots steps.looked) steps.parts.endings
    ++ dropped_in steps.ended.slots steps.ended.told steps.droppings

-- The answers in `finish_children`.
abbrev pub finished_in : Slots → Option ChildTrace → List Finishing → List AnsweredOrder
finished_in slots told [] = []
finished_in slots told (f ∷ fs) = answer_at (finite.get slots f.job) told ++ finished_in f.slots f.told fs

-- ## A tick

-- Each of these orders is right after the earlier ones.
abbrev pub AllRight : List AnsweredOrder → List Placed → Type 0
AllRight earlier [] = Unit {0}
AllRight earlier (p ∷ ps) = IsRight earlier p.order × AllRight earlier ps

-- A tick with this trace of the children before it. Its starts come before all its answers, so the inputs of its orders are outputs of
-- orders that were answered in earlier ticks. After it the slots retain the outputs of all of them.
pub record TickHandsOn {D : Type 0} (earlier : List AnsweredOrder) (t : ChildTrace) (old : RunState D) (steps : PassSteps D) (new : RunState D) : Type 0 where
  pub now : ChildTrace
  pub tells : new.told ≡ Some now
  pub orders : List Placed
  pub added : now.orders ≡ t.orders ++ orders
  pub right : AllRight earlier orders
  -- The input of each first stage is the document that was read.
  pub documents : (documents : ℕ → List ℕ) → AreHanded documents steps.parts.launchings → HaveDocuments documents orders
  pub kept : AreKeptFrom (earlier ++ answers_in old steps) new.slots
  pub run : RunTheirStages now.orders new.slots

-- The same for `finish_children`, which gives no order. The children that are left, if any, have their tickets in the slots.
pub record FinishesHandOn (earlier : List AnsweredOrder) (t : ChildTrace) (slots : Slots) (told : Option ChildTrace) (fs : List Finishing) (new : Slots) (told' : Option ChildTrace) : Type 0 where
  pub now : ChildTrace
  pub tells : told' ≡ Some now
  pub orders : now.orders ≡ t.orders
  pub kept : AreKeptFrom (earlier ++ finished_in slots told fs) new
  pub run : RunTheirStages now.orders new
  pub tickets : HasTickets new now

-- ## Consecutive ticks

-- A tick, from its call to its return.
pub record TickCall (D : Type 0) : Type 0 where
  pub limits : Option TickLimits
  pub old : RunState D
  pub result : Result Round RoundFault
  pub new : RunState D

-- Each tick begins with the slots and the children that the previous one left. Its table is legal, and may be another one, since other
-- events may come between ticks.
abbrev pub AreTicks : {D : Type 0} → DiskView D → Place → Slots → Option ChildTrace → List (TickCall D) → Type 0
AreTicks device place slots told [] = Unit {0}
AreTicks device place slots told (c ∷ cs) =
    (c.old.slots ≡ slots) × (c.old.told ≡ told) × IsLegal c.old.spool.state × IsTickOf device place c.limits c.old c.new c.result × AreTicks device place c.new.slots c.new.told cs

-- Each of them continues from the answers of those before it.
abbrev pub AreHandedOn : {D : Type 0} (device : DiskView D) (place : Place) (slots : Slots) (told : Option ChildTrace) → List AnsweredOrder → ChildTrace → (cs : List (TickCall D)) → AreTicks device place slots told cs → Type 0
AreHandedOn device place slots told earlier t [] ticks = Unit {0}
AreHandedOn device place slots told earlier t (c ∷ cs) (begins, tells, legal, tick, ticks) =
    (hands : TickHandsOn earlier t c.old tick.steps c.new) × AreHandedOn device place c.new.slots c.new.told (earlier ++ answers_in c.old tick.steps) hands.now cs ticks
