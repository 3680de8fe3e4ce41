-- The jobs so far.
use Rattle.std.proofs.Common.{◌≡◌, ◌++◌, take, vec_len}
use Rattle.std.specs.Prelude.{vec_capacity, ◌+◌}
use Rattle.print_rounds.proofs.start_room.list_more.Given as goal

abbrev pub invariant-loop-job : goal.invariant-loop-job
invariant-loop-job l = record {
  items : l.chosen.items ≡ l.initial.chosen.items ++ take l.job-index l.jobs;
  len : vec_len l.chosen ≡ vec_len l.initial.chosen + l.job-index;
  room : vec_capacity l.chosen ≡ vec_capacity l.initial.chosen;
}
