-- The member is not among the values so far.
use Rattle.std.proofs.Common.{◌≡◌, length}
use Rattle.ipp_options.specs.PaperValues.{after_name}
use Rattle.ipp_options.proofs.paper.after_name.Given as goal

abbrev pub invariant-loop-value : goal.invariant-loop-value
invariant-loop-value l = after_name l.name l.rest ≡ after_name l.name l.values

abbrev pub decreases-loop-value : goal.decreases-loop-value
decreases-loop-value l = length l.rest
