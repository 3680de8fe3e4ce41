-- The links of the conversions so far.
use Rattle.std.proofs.Common.{◌≡◌, map, take}
use Rattle.mime_costs.specs.SourceIndex.{sources_of, link_of}
use Rattle.mime_costs.proofs.links.links_of.Given as goal

abbrev pub invariant-loop-conversion : goal.invariant-loop-conversion
invariant-loop-conversion l = l.links.items ≡ map (link_of (sources_of l.conversions)) (take l.conversion-index l.conversions)
