-- The stages whose end may lead to a retry after an interval. The interval counts from the table's moment.
use Rattle.std.specs.Prelude.{ℕ, Bool, false, ◌&&◌, nat_le, nat_lt, is_some, List, Option, None, Some}
use Rattle.std.specs.FinMap as finite
use Rattle.std.specs.List.{list_any}
use Rattle.job_table.specs.Attempts.{busy_of, next_of}
use Rattle.spool_types.specs.State.{State, Job, job_at}
use Rattle.spool_types.specs.declared.phase.Phase.{Phase}
use Rattle.spool_types.specs.declared.phase.Phase.TheVariants.{Incoming, Waiting, Processing, Completed, Canceled, Aborted}
use Rattle.spool_types.specs.declared.rows.QueueRow.{QueueRow}

-- A job in its last stage: its backend.
abbrev pub is_in_last_stage : Phase → Bool
is_in_last_stage (Incoming hold) = false
is_in_last_stage (Waiting hold not_before first) = false
is_in_last_stage (Processing attempt stage stages) = nat_le stages stage
is_in_last_stage Completed = false
is_in_last_stage Canceled = false
is_in_last_stage (Aborted reason) = false

abbrev pub is_row_in_last_stage : Option Job → Bool
is_row_in_last_stage None = false
is_row_in_last_stage (Some r) = is_in_last_stage r.phase

-- The processing job of a queue is in its last stage; or, if none is processing, the next job is started now, and its child may fail to start.
abbrev pub may_end : State → List ℕ → Option ℕ → Bool
may_end s name None = is_some (next_of s name)
may_end s name (Some job) = is_row_in_last_stage (job_at s job)

abbrev pub may_retry_in : State → QueueRow → Bool
may_retry_in s q = nat_lt 0 q.interval && may_end s q.name (busy_of s q.name)

abbrev pub may_retry : State → Bool
may_retry s = list_any (may_retry_in s) (finite.values s.queues)
