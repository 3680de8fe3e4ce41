-- No conversion so far has the source.
use Rattle.std.proofs.Common.{◌≡◌, ℕ, ◌<◌, false, [], get_or}
use Rattle.mime_costs.specs.Conversions.{same}
use Rattle.mime_costs.specs.SourceIndex.{sources_of}
use Rattle.mime_costs.proofs.links.position_of.Given as goal

abbrev pub invariant-loop-i : goal.invariant-loop-i
invariant-loop-i l = (k : ℕ) → k < l.i → same (get_or (sources_of l.conversions) k []) l.source ≡ false
