-- The members so far are honored.
use Rattle.std.proofs.Common.{◌≡◌, length}
use Rattle.ipp_options.specs.PaperValues.{are_honored}
use Rattle.ipp_options.proofs.paper.are_honored.Given as goal

abbrev pub invariant-loop-value : goal.invariant-loop-value
invariant-loop-value l = are_honored l.rest ≡ are_honored l.values

abbrev pub decreases-loop-value : goal.decreases-loop-value
decreases-loop-value l = length l.rest
