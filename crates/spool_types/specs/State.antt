-- The state of the spooler: its queues, its jobs, the highest job number that was assigned, and the current moment. The
-- bytes of documents are not part of it, since no event is accepted, refused or answered depending on them.
use Rattle.std.specs.Prelude.{ℕ, List, Option}
use Rattle.std.specs.Ordering.{nat_cmp}
use Rattle.std.specs.Cmp.Lexicographic.{slice_cmp}
use Rattle.std.specs.FinMap as map
use Rattle.spool_types.specs.declared.rows.QueueRow.{QueueRow}
use Rattle.spool_types.specs.declared.rows.JobRow.{JobRow}
use Rattle.spool_types.specs.declared.rows.Job.{Job as JobRecord}
use Rattle.spool_types.specs.declared.version.Version.{Version}
use Rattle.spool_types.specs.declared.version.Version.TheVariants.{Two}

-- A job without the extents of its document.
abbrev pub Job : Type 0
Job = JobRecord

abbrev pub job_of : JobRow → Job
job_of r = r.job

abbrev pub Queues : Type 0
Queues = map.FinMap (slice_cmp nat_cmp) QueueRow

abbrev pub Jobs : Type 0
Jobs = map.FinMap nat_cmp Job

-- A table: queues by name and jobs by number, and the version of the area that contains it.
pub record State : Type 0 where
  pub queues : Queues
  pub jobs : Jobs
  pub highest : ℕ
  pub moment : ℕ
  pub version : Version

-- The empty table with which an area of this version begins.
abbrev pub nothing_in : Version → State
nothing_in version = record { queues = map.empty; jobs = map.empty; highest = 0; moment = 0; version = version }

abbrev pub nothing : State
nothing = nothing_in Two

abbrev pub queue_at : State → List ℕ → Option QueueRow
queue_at s name = map.get s.queues name

abbrev pub job_at : State → ℕ → Option Job
job_at s j = map.get s.jobs j
