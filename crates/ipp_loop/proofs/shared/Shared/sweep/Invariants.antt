-- No job was added so far.
use Rattle.std.proofs.Common.{◌≤◌}
use Rattle.ipp_loop.specs.SharedStates.{parked_count}
use Rattle.ipp_loop.proofs.shared.Shared.sweep.Given as goal

abbrev pub invariant-loop : goal.invariant-loop
invariant-loop g l = parked_count l.self ≤ parked_count l.fn.self
