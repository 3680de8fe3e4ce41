-- Calls of a StageHistory: what calls do with the stages of attempts, so that none is started twice.
use Rattle.std.specs.Prelude.{◌≡◌, ℕ, true, false, List, [], ◌++◌, map, Some}
use Rattle.std.specs.FinMap as finite
use Rattle.spool_types.specs.declared.event.Event.{Event}
use Rattle.spool_types.specs.State.{State}
use Rattle.job_table.specs.Stages.{Key, IsIn}
use Rattle.job_table.specs.TableCalls.{IsTableCall}
use Rattle.child_pipeline.specs.StageSlots.{Slots, is_ready}
use Rattle.child_pipeline.specs.ChildTraces.{ChildTrace}
use Rattle.child_pipeline.specs.declared.order.Placed.{Placed}
use Rattle.child_pipeline.specs.declared.runner.Slot.{Slot}
use Rattle.print_rounds.specs.RunStates.{RunState}

-- The stage that an order is for.
abbrev pub key_in : Placed → Key
key_in p = record { job = p.order.job; attempt = p.order.attempt; stage = p.order.stage }

abbrev pub keys_in : List Placed → List Key
keys_in ps = map key_in ps

-- The slot's stage was started or could not be started, and its end is not reported yet: its child runs, or its finish or NoStart is
-- stored.
pub record IsBegunSlot (slots : Slots) (k : Key) : Type 0 where
  pub slot : Slot ℕ
  pub there : finite.get slots k.job ≡ Some slot
  pub attempt : slot.attempt ≡ k.attempt
  pub stage : slot.stage ≡ k.stage
  pub begun : is_ready slot.progress ≡ false

-- The stage that the table has a job in, if it was begun and its end is not reported.
abbrev pub IsHeld : State → Slots → Key → Type 0
IsHeld s slots k = IsIn s k × IsBegunSlot slots k

-- The new orders of a call, if the children report, and the call of the table.
pub record IsStageCall {D : Type 0} (t : ChildTrace) (old : RunState D) (more : List Event) (new : RunState D) : Type 0 where
  pub now : ChildTrace
  pub tells : new.told ≡ Some now
  pub orders : List Placed
  pub added : now.orders ≡ t.orders ++ orders
  pub turn : IsTableCall old.spool.state (IsHeld old.spool.state old.slots) more (keys_in orders) new.spool.state (IsHeld new.spool.state new.slots) new.spool.dead
  -- If the device had failed before, there is no order, and it has still failed after.
  pub after_over : old.spool.dead ≡ true → (orders ≡ []) × (new.spool.dead ≡ true)
