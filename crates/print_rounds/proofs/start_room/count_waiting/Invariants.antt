-- The jobs of the queues so far.
use Rattle.std.proofs.Common.{◌≡◌, ◌≤◌, length, take}
use Rattle.std.specs.FinMap as finite
use Rattle.print_rounds.specs.Choice.{busy_jobs}
use Rattle.print_rounds.specs.StageChecks.{idle_among}
use Rattle.print_rounds.proofs.start_room.count_waiting.Given as goal

abbrev pub invariant-loop-queue : goal.invariant-loop-queue
invariant-loop-queue g l = record {
  waiting : l.waiting ≡ length (idle_among l.runner (busy_jobs l.table.state (take l.queue-index (finite.keys l.table.state.queues))));
  few : l.waiting ≤ l.queue-index;
}
