-- The clients of the slots so far that listen and count for the same user.
use Rattle.std.proofs.Common.{◌≡◌, ◌≤◌}
use Rattle.service_loop.specs.ClientListening.{listeners_like}
use Rattle.service_loop.proofs.listeners.own_listeners.Given as goal

abbrev pub invariant-loop-key : goal.invariant-loop-key
invariant-loop-key g l = record {
  counted : l.count ≡ listeners_like l.client.standing l.slots l.key;
  few : l.count ≤ l.key;
}
