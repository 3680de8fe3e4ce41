-- The costs of the links so far.
use Rattle.std.proofs.Common.{◌≡◌, map, take}
use Rattle.mime_costs.specs.Costs.{next_cost}
use Rattle.mime_costs.proofs.costs.next_row.Given as goal

abbrev pub invariant-loop-link : goal.invariant-loop-link
invariant-loop-link l = l.row.items ≡ map (next_cost l.groups) (take l.link-index l.links)
