-- The numbers of the rows so far.
use Rattle.std.proofs.Common.{◌≡◌, map}
use Rattle.spool_halves.proofs.listing.numbers_of.Given as goal

abbrev pub invariant-loop-row : goal.invariant-loop-row
invariant-loop-row l = l.numbers.items ≡ map (λ row. row.now.job.id) l.yielded
