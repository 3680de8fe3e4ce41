-- The slots of jobs.
use Rattle.std.specs.Prelude.{◌≡◌, ℕ, ◌+◌, ◌<◌, ◌≤◌, Bool, true, false, List, length, Option, None, Some, IsTrue, IsSome, unwrap_or}
use Rattle.std.specs.Ordering.{nat_cmp}
use Rattle.std.specs.FinMap as finite
use Rattle.std.specs.declared.ops.Bound.{Bound}
use Rattle.std.specs.declared.ops.Bound.TheVariants.{Excluded, Unbounded}
use Rattle.spool_types.specs.declared.phase.Phase.{Phase}
use Rattle.spool_types.specs.declared.phase.Phase.TheVariants.{Incoming, Waiting, Processing, Completed, Canceled, Aborted}
use Rattle.spool_types.specs.declared.event.StageEnd.{StageEnd}
use Rattle.spool_types.specs.declared.rows.QueueRow.{QueueRow}
use Rattle.spool_types.specs.State.{Job}
use Rattle.filter_args.specs.declared.place.Place.{Place}
use Rattle.child_pipeline.specs.Finishes.{no_start, kept, end_of}
use Rattle.child_pipeline.specs.Orders.{order_of}
use Rattle.child_pipeline.specs.ChildTraces.{ChildTrace, starts_next, after_start, first_finish, after_finish, is_in}
use Rattle.child_pipeline.specs.declared.order.Finish.{Finish}
use Rattle.child_pipeline.specs.declared.order.Input.{Input}
use Rattle.child_pipeline.specs.declared.order.Input.TheVariants.{Document, Bytes}
use Rattle.child_pipeline.specs.declared.order.Order.{Order}
use Rattle.child_pipeline.specs.declared.runner.Progress.{Progress}
use Rattle.child_pipeline.specs.declared.runner.Progress.TheVariants.{Ready, Running, Ended}
use Rattle.child_pipeline.specs.declared.runner.Slot.{Slot}

-- A child is identified by the number of its order.
abbrev pub Slots : Type 0
Slots = finite.FinMap nat_cmp (Slot ℕ)

abbrev pub numbered_progress : {T : Type 0} → (T → ℕ) → Progress T → Progress ℕ
numbered_progress number (Ready input) = Ready input
numbered_progress number (Running ticket) = Running (number ticket)
numbered_progress number (Ended finish) = Ended finish

abbrev pub numbered : {T : Type 0} → (T → ℕ) → Slot T → Slot ℕ
numbered number slot = record { attempt = slot.attempt; stage = slot.stage; progress = numbered_progress number slot.progress }

abbrev pub with_progress : Slot ℕ → Progress ℕ → Slot ℕ
with_progress slot p = record slot { progress = p }

-- The process group of the running child, if there is one.
abbrev pub group_of_progress : (ℕ → ℕ) → Progress ℕ → Option ℕ
group_of_progress groups (Ready input) = None
group_of_progress groups (Running n) = Some (groups n)
group_of_progress groups (Ended finish) = None

abbrev pub group_in : (ℕ → ℕ) → Option (Slot ℕ) → Option ℕ
group_in groups None = None
group_in groups (Some slot) = group_of_progress groups slot.progress

-- It has no running child.
abbrev pub IsTicketless : Option (Slot ℕ) → Type 0
IsTicketless None = Unit {0}
IsTicketless (Some slot) = (n : ℕ) → ¬ (slot.progress ≡ Running n)

abbrev pub begun : ℕ → ℕ → Slot ℕ
begun attempt stage = record { attempt = attempt; stage = stage; progress = Ready None }

-- The slot of a job that has one.
abbrev pub slot_in : Slots → ℕ → Slot ℕ
slot_in slots j = unwrap_or (finite.get slots j) (begun 0 0)

abbrev pub put_progress : Slots → ℕ → Progress ℕ → Slots
put_progress slots j p = finite.insert slots j (with_progress (slot_in slots j) p)

-- The number is greater than this one, if given.
abbrev pub IsBehind : Option ℕ → ℕ → Type 0
IsBehind None j = Unit {0}
IsBehind (Some k) j = k < j

-- The lower bound of the numbers after it.
abbrev pub bound_behind : Option ℕ → Bound ℕ
bound_behind None = Unbounded
bound_behind (Some k) = Excluded k

-- The least job after this one that has a slot, if any.
abbrev pub IsNextJob : Slots → Option ℕ → Option ℕ → Type 0
IsNextJob slots behind None = (j : ℕ) → IsBehind behind j → finite.get slots j ≡ None
IsNextJob slots behind (Some k) = IsBehind behind k × IsSome (finite.get slots k) × ((j : ℕ) → IsBehind behind j → IsSome (finite.get slots j) → k ≤ j)

-- The first stage of an attempt.
abbrev pub IsFirstStage : Phase → Type 0
IsFirstStage (Processing attempt stage stages) = (1 ≤ attempt) × (stage ≡ 1)
IsFirstStage (Incoming hold) = ⊥
IsFirstStage (Waiting hold not_before first) = ⊥
IsFirstStage Completed = ⊥
IsFirstStage Canceled = ⊥
IsFirstStage (Aborted reason) = ⊥

-- A slot for the job's current stage.
abbrev pub begun_in : Slots → ℕ → Phase → Slots
begun_in slots j (Processing attempt stage stages) = finite.insert slots j (begun attempt stage)
begun_in slots j (Incoming hold) = slots
begun_in slots j (Waiting hold not_before first) = slots
begun_in slots j Completed = slots
begun_in slots j Canceled = slots
begun_in slots j (Aborted reason) = slots

-- The slot is for the current stage of a job in this phase.
abbrev pub IsCurrent : Slot ℕ → Phase → Type 0
IsCurrent slot (Processing attempt stage stages) = (slot.attempt ≡ attempt) × (slot.stage ≡ stage)
IsCurrent slot (Incoming hold) = ⊥
IsCurrent slot (Waiting hold not_before first) = ⊥
IsCurrent slot Completed = ⊥
IsCurrent slot Canceled = ⊥
IsCurrent slot (Aborted reason) = ⊥

abbrev pub is_ready : {T : Type 0} → Progress T → Bool
is_ready (Ready input) = true
is_ready (Running n) = false
is_ready (Ended finish) = false

abbrev pub is_running : {T : Type 0} → Progress T → Bool
is_running (Ready input) = false
is_running (Running n) = true
is_running (Ended finish) = false

abbrev pub is_ended : {T : Type 0} → Progress T → Bool
is_ended (Ready input) = false
is_ended (Running n) = false
is_ended (Ended finish) = true

-- A stage that was not started.
abbrev pub IsReady : Option (Slot ℕ) → Type 0
IsReady None = ⊥
IsReady (Some slot) = is_ready slot.progress ≡ true

-- The job's current stage, which was not started.
abbrev pub IsDue : Option (Slot ℕ) → Phase → Type 0
IsDue None phase = ⊥
IsDue (Some slot) phase = (is_ready slot.progress ≡ true) × IsCurrent slot phase

-- A stage that was started or could not be started.
abbrev pub IsReporting : Option (Slot ℕ) → Type 0
IsReporting None = ⊥
IsReporting (Some slot) = is_ready slot.progress ≡ false

abbrev pub IsRunning : Option (Slot ℕ) → Type 0
IsRunning None = ⊥
IsRunning (Some slot) = is_running slot.progress ≡ true

abbrev pub IsEnded : Option (Slot ℕ) → Type 0
IsEnded None = ⊥
IsEnded (Some slot) = is_ended slot.progress ≡ true

-- A stage that has ended and is not the last possible one.
abbrev pub HasNext : Option (Slot ℕ) → Type 0
HasNext None = ⊥
HasNext (Some slot) = (is_ended slot.progress ≡ true) × (slot.stage < 16)

-- The input of a stage: the document, or the output of the previous stage.
abbrev pub input_in : Progress ℕ → List ℕ → Input
input_in (Ready None) document = Document document
input_in (Ready (Some output)) document = Bytes output
input_in (Running n) document = Document document
input_in (Ended finish) document = Document document

-- The order for the stage of a job that has a slot.
abbrev pub order_in : Place → Slots → Job → QueueRow → List ℕ → Order
order_in place slots r q document =
    order_of place r q (slot_in slots r.id).attempt (slot_in slots r.id).stage (input_in (slot_in slots r.id).progress document)

abbrev pub progress_after : Bool → ℕ → Progress ℕ
progress_after true n = Running n
progress_after false n = Ended no_start

-- One start of this order, and its answer.
pub record IsStartOf (t : ChildTrace) (order : Order) (started : Bool) (n : ℕ) (new : Option ChildTrace) : Type 0 where
  pub answer : started ≡ starts_next t
  pub number : IsTrue started → n ≡ length t.orders
  pub told : new ≡ Some (after_start t order)

abbrev pub IsStart : Option ChildTrace → Order → Bool → ℕ → Option ChildTrace → Type 0
IsStart None order started n new = new ≡ None
IsStart (Some t) order started n new = IsStartOf t order started n new

pub record StartsStage (told : Option ChildTrace) (order : Order) (started : Bool) (old : Slots) (j : ℕ) (new : Slots) (told' : Option ChildTrace) : Type 0 where
  pub number : ℕ
  pub slots : new ≡ put_progress old j (progress_after started number)
  pub start : IsStart told order started number told'

-- One finish of the child with this number, if it was running.
abbrev pub IsFinish : Option ChildTrace → ℕ → Finish → Option ChildTrace → Type 0
IsFinish None n f new = new ≡ None
IsFinish (Some t) n f new = is_in n t.running ≡ true → (f ≡ kept (first_finish t.finishes)) × (new ≡ Some (after_finish t n))

pub record Waits (told : Option ChildTrace) (n : ℕ) (old : Slots) (j : ℕ) (new : Slots) (told' : Option ChildTrace) : Type 0 where
  pub finish : Finish
  pub slots : new ≡ put_progress old j (Ended finish)
  pub answer : IsFinish told n finish told'

-- A running child is finished, and a stored finish stays.
abbrev pub FinishesFrom : Progress ℕ → Option ChildTrace → Slots → ℕ → Slots → Option ChildTrace → Type 0
FinishesFrom (Running n) told slots j slots' told' = Waits told n slots j slots' told'
FinishesFrom (Ended finish) told slots j slots' told' = (slots' ≡ slots) × (told' ≡ told)
FinishesFrom (Ready input) told slots j slots' told' = ⊥

abbrev pub FinishesStage : Option ChildTrace → Slots → ℕ → Slots → Option ChildTrace → Type 0
FinishesStage told slots j slots' told' = FinishesFrom (slot_in slots j).progress told slots j slots' told'

-- The finish that a slot stores.
abbrev pub finish_in : Progress ℕ → Finish
finish_in (Ended finish) = finish
finish_in (Ready input) = no_start
finish_in (Running n) = no_start

-- The event of the end of a stage, from the finish that the job's slot stores.
abbrev pub end_in : Slots → ℕ → StageEnd
end_in slots j = end_of j (slot_in slots j).attempt (slot_in slots j).stage (finish_in (slot_in slots j).progress)

-- The next stage, with the output as its input.
abbrev pub advanced : Slot ℕ → Slot ℕ
advanced slot = record { attempt = slot.attempt; stage = slot.stage + 1; progress = Ready (Some (finish_in slot.progress).output) }

abbrev pub advanced_in : Slots → ℕ → Slots
advanced_in slots j = finite.insert slots j (advanced (slot_in slots j))
