-- The earlier queue, followed by the rows so far.
use Rattle.std.proofs.Common.{◌≡◌, ◌++◌, map, take}
use Rattle.spool_front.specs.QueueChoice.{noted, place_at}
use Rattle.spool_front.proofs.services.note_only.Given as goal

abbrev pub invariant-loop-row : goal.invariant-loop-row
invariant-loop-row l =
    noted l.only (λ service. service.now) ≡ noted l.initial.only (λ service. service.now) ++ map (place_at l.socket) (take l.row-index l.queues)
