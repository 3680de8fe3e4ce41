-- The idle jobs so far.
use Rattle.std.proofs.Common.{◌≡◌, ◌≤◌, take, vec_len}
use Rattle.std.specs.Prelude.{vec_capacity}
use Rattle.print_rounds.specs.StageChecks.{idle_among}
use Rattle.print_rounds.proofs.busy.list_idle.Given as goal

abbrev pub invariant-loop-job : goal.invariant-loop-job
invariant-loop-job g l = record {
  idle : l.idle.items ≡ idle_among l.runner (take l.job-index l.jobs);
  few : vec_len l.idle ≤ l.job-index;
  room : vec_capacity l.idle ≡ vec_capacity l.initial.idle;
}
