-- The sources of the conversions so far.
use Rattle.std.proofs.Common.{◌≡◌, List, ◌++◌, length}
use Rattle.mime_costs.specs.declared.conversion.Conversion.{Conversion}
use Rattle.mime_costs.proofs.SourceLaws.{Known}
use Rattle.mime_costs.proofs.links.Sources.of.Given as goal

abbrev pub invariant-loop-last : goal.invariant-loop-last
invariant-loop-last l = (tail : List Conversion) × (l.conversions ≡ l.rest ++ tail) × Known l.positions (length l.conversions) (length l.rest) tail

abbrev pub decreases-loop-last : goal.decreases-loop-last
decreases-loop-last l = length l.rest
