-- The stages that a tick can start, and the quiet that a requested end waits for.
use Rattle.std.specs.Prelude.{◌≡◌, ℕ, Bool, false, cond, is_some, not, List, Option, None, Some}
use Rattle.std.specs.FinMap as finite
use Rattle.std.specs.List.{count_by}
use Rattle.child_pipeline.specs.StageSlots.{Slots}
use Rattle.job_table.specs.Attempts.{busy_of, next_of}
use Rattle.print_rounds.specs.RoundTicks.{count_running}
use Rattle.print_rounds.specs.RunStates.{RunState}
use Rattle.print_rounds.specs.StageChecks.{runs}
use Rattle.print_rounds.specs.declared.start_room.TickLimits.{TickLimits}
use Rattle.spool_types.specs.State.{State}
use Rattle.spool_types.specs.declared.rows.QueueRow.{QueueRow}

-- A processing job has no running child.
abbrev pub rests : Slots → Option ℕ → Bool
rests slots None = false
rests slots (Some job) = not (runs slots job)

-- A queue has a processing job at rest or, if none is processing, a next job.
abbrev pub can_start : Slots → State → List ℕ → Option ℕ → Bool
can_start slots s name None = is_some (next_of s name)
can_start slots s name (Some job) = not (runs slots job)

abbrev pub rests_in : Slots → State → QueueRow → Bool
rests_in slots s q = rests slots (busy_of s q.name)

abbrev pub can_start_in : Slots → State → QueueRow → Bool
can_start_in slots s q = can_start slots s q.name (busy_of s q.name)

-- The number of processing jobs at rest.
abbrev pub resting : Slots → State → ℕ
resting slots s = count_by (rests_in slots s) (finite.values s.queues)

-- The number of queues of which a stage can be started.
abbrev pub startable : Slots → State → ℕ
startable slots s = count_by (can_start_in slots s) (finite.values s.queues)

-- How many children the next tick may start. A service that must end starts no further job.
abbrev pub starts_of : Bool → Slots → State → ℕ
starts_of ends slots s = cond ends (resting slots s) (startable slots s)

-- The limits of the next tick.
abbrev pub limits_of : {D : Type 0} → ℕ → Bool → RunState D → TickLimits
limits_of most ends s = record { most = most; starts = starts_of ends s.slots s.spool.state }

-- No child runs, and no processing job is at rest.
abbrev pub IsQuiet : Slots → State → Type 0
IsQuiet slots s = (count_running slots ≡ 0) × (resting slots s ≡ 0)
