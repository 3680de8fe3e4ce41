-- Which jobs are processing, queue by queue, and whether the stage of a job must be started.
use Rattle.std.specs.Prelude.{ℕ, Bool, true, false, cond, ◌&&◌, ◌==◌, List, [], ◌∷◌, Option, None, Some}
use Rattle.std.specs.FinMap as map
use Rattle.spool_types.specs.declared.phase.Phase.{Phase}
use Rattle.spool_types.specs.declared.phase.Phase.TheVariants.{Incoming, Waiting, Processing, Completed, Canceled, Aborted}
use Rattle.spool_types.specs.State.{State, Job}
use Rattle.job_table.specs.Attempts.{busy_of}
use Rattle.child_pipeline.specs.StageSlots.{Slots, begun_in, is_ready}
use Rattle.child_pipeline.specs.declared.runner.Slot.{Slot}

abbrev pub with_busy : Option ℕ → List ℕ → List ℕ
with_busy None js = js
with_busy (Some j) js = j ∷ js

-- The processing jobs of these queues, in their order.
abbrev pub busy_jobs : State → List (List ℕ) → List ℕ
busy_jobs s [] = []
busy_jobs s (name ∷ names) = with_busy (busy_of s name) (busy_jobs s names)

-- At the first stage a new slot, and none at a later one: that one had a slot with the output of the previous stage.
abbrev pub new_slots : Slots → Job → ℕ → Option Slots
new_slots slots r stage = cond (stage == 1) (Some (begun_in slots r.id r.phase)) None

-- Whether a slot of this stage is ready to be started, or None if there is no slot or it is of another stage.
abbrev pub readiness : ℕ → ℕ → Option (Slot ℕ) → Option Bool
readiness attempt stage None = None
readiness attempt stage (Some slot) = cond (slot.attempt == attempt && slot.stage == stage) (Some (is_ready slot.progress)) None

-- The slots with one for this stage: it exists, or it is made in place of one of another stage. None if its stage must not be started.
abbrev pub slots_by : Slots → Job → ℕ → Option Bool → Option Slots
slots_by slots r stage None = new_slots slots r stage
slots_by slots r stage (Some true) = Some slots
slots_by slots r stage (Some false) = None

-- If the job's stage must be started, the slots with its own. None otherwise: its child's finish is stored.
abbrev pub slots_in : Slots → Job → Phase → Option Slots
slots_in slots r (Processing attempt stage stages) = slots_by slots r stage (readiness attempt stage (map.get slots r.id))
slots_in slots r (Incoming hold) = None
slots_in slots r (Waiting hold not_before first) = None
slots_in slots r Completed = None
slots_in slots r Canceled = None
slots_in slots r (Aborted reason) = None

abbrev pub slots_for : Slots → Job → Option Slots
slots_for slots r = slots_in slots r r.phase
