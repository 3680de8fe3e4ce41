-- The first rows of the part are those of the whole, with the row in place of the one with its name.
use Rattle.std.proofs.Common.{◌≡◌, map, take}
use Rattle.split_rows.specs.Replaced.{replaced}
use Rattle.split_rows.proofs.rows.are_queues_with.Given as goal

abbrev pub invariant-loop-at : goal.invariant-loop-at
invariant-loop-at l = take l.at l.part ≡ map (replaced l.row) (take l.at l.whole)
