-- The readiness of each event so far was added.
use Rattle.std.proofs.Common.{◌≡◌, ◌++◌, map}
use Rattle.spool_service.specs.Socket.{readiness_of}
use Rattle.spool_service.proofs.socket.push_readiness.Given as goal

abbrev pub invariant-loop-event : goal.invariant-loop-event
invariant-loop-event l = l.ready.items ≡ l.fn.ready.items ++ map readiness_of (map (λ event. event.now) l.yielded)
