use Rattle.std.proofs.Common.{◌≤◌, ◌-◌, ◌++◌, length, take}
use Rattle.side_channel.specs.SessionPieces.{to_come}
use Rattle.side_channel.specs.SessionBytes.{Comes}
use Rattle.side_channel.specs.declared.pieces.Came.TheVariants.{Part}
use Rattle.side_channel.proofs.pieces.reach.Given as goal

abbrev pub invariant-bytes : goal.invariant-bytes
invariant-bytes l = record {
  within : l.count ≤ length l.piece;
  comes : Comes (λ d more. to_come d l.fn.held (take l.count l.piece ++ more)) Part l.held;
}

abbrev pub decreases-bytes : goal.decreases-bytes
decreases-bytes l = length l.piece - l.count
