-- The jobs of the queues so far.
use Rattle.std.proofs.Common.{◌≡◌, ◌≤◌, take, vec_len}
use Rattle.std.specs.Prelude.{vec_capacity}
use Rattle.std.specs.FinMap as finite
use Rattle.print_rounds.specs.StageChecks.{tended_jobs}
use Rattle.print_rounds.proofs.busy.list_tended.Given as goal

abbrev pub invariant-loop-queue : goal.invariant-loop-queue
invariant-loop-queue g l = record {
  jobs : l.jobs.items ≡ tended_jobs l.table.state l.runner (take l.queue-index (finite.keys l.table.state.queues));
  few : vec_len l.jobs ≤ l.queue-index;
  room : vec_capacity l.jobs ≡ vec_capacity l.initial.jobs;
}
