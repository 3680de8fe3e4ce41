-- No queue is open so far.
use Rattle.std.proofs.Common.{◌≡◌, true, replicate}
use Rattle.std.specs.Prelude.{vec_capacity}
use Rattle.print_rounds.proofs.start_room.hold_back.Given as goal

abbrev pub invariant-loop : goal.invariant-loop
invariant-loop g l = record {
  flags : l.spare.items ≡ replicate l.counter true;
  room : vec_capacity l.spare ≡ vec_capacity l.initial.spare;
}
