-- No visited queue has a next job.
use Rattle.std.proofs.Common.{◌≡◌, ℕ, ◌<◌, false, Some, slice_index_or}
use Rattle.std.specs.FinMap as finite
use Rattle.queue_sched.specs.Next.{is_eligible}
use Rattle.spool_types.specs.State.{Job, job_at, queue_at}
use Rattle.spool_types.specs.declared.rows.QueueRow.{QueueRow}
use Rattle.job_table.proofs.table.Table.starts_any.Given as goal

abbrev pub invariant-loop-queue : goal.invariant-loop-queue
invariant-loop-queue l = (i : ℕ) (d : QueueRow) → i < l.queue-index → (q : QueueRow) → queue_at l.self.state (slice_index_or (finite.values l.self.state.queues) i d).name ≡ Some q
    → (j : ℕ) (r : Job) → job_at l.self.state j ≡ Some r → is_eligible (finite.values l.self.state.jobs) (slice_index_or (finite.values l.self.state.queues) i d).name q.stopped l.self.state.moment r ≡ false
