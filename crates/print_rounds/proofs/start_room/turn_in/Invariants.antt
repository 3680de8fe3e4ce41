-- The turn after the queues so far.
use Rattle.print_rounds.specs.Turns.{IsTurnAfter}
use Rattle.print_rounds.proofs.start_room.turn_in.Given as goal

abbrev pub invariant-loop-at : goal.invariant-loop-at
invariant-loop-at l = IsTurnAfter l.blocked l.from l.at l.before l.turn
