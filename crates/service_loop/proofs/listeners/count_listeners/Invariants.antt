-- The clients of the slots so far that listen.
use Rattle.std.proofs.Common.{◌≡◌, ◌≤◌}
use Rattle.service_loop.specs.ClientListening.{listeners_below}
use Rattle.service_loop.proofs.listeners.count_listeners.Given as goal

abbrev pub invariant-loop-key : goal.invariant-loop-key
invariant-loop-key g l = record {
  counted : l.count ≡ listeners_below l.slots l.key;
  few : l.count ≤ l.key;
}
