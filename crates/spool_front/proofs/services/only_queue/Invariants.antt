-- The stored queue is at one of the services.
use Rattle.std.proofs.Common.{IfSome, map}
use Rattle.std.specs.List.{Contains}
use Rattle.spool_front.proofs.services.only_queue.Given as goal

abbrev pub invariant-loop-socket : goal.invariant-loop-socket
invariant-loop-socket l = IfSome l.only (λ service. Contains (map (λ socket. socket.now) l.services.sockets.now) service.0.now)
