-- The flags so far: those of the queues, and then those set for the jobs that have slots.
use Rattle.std.proofs.Common.{◌≡◌, false, replicate}
use Rattle.std.specs.Prelude.{vec_capacity}
use Rattle.std.specs.FinMap as finite
use Rattle.print_rounds.proofs.BlockLaws.{flags_to}
use Rattle.print_rounds.proofs.FreeLaws.{jobs_ahead}
use Rattle.print_rounds.proofs.LookLaws.{jobs_to}
use Rattle.print_rounds.proofs.busy.mark_blocked.Given as goal

abbrev pub invariant-loop : goal.invariant-loop
invariant-loop g l = record {
  flags : l.blocked.items ≡ replicate l.counter false;
  room : vec_capacity l.blocked ≡ vec_capacity l.initial.blocked;
}

abbrev pub invariant-loop-job : goal.invariant-loop-job
invariant-loop-job g l = l.blocked.items ≡ flags_to l.table.state l.runner (jobs_to l.behind (finite.keys l.runner)) (finite.keys l.table.state.queues)

abbrev pub decreases-loop-job : goal.decreases-loop-job
decreases-loop-job g l = jobs_ahead l.behind
