-- The costs of the conversions so far.
use Rattle.std.proofs.Common.{◌≡◌, cond, Some, None, map, take}
use Rattle.mime_costs.specs.Conversions.{same}
use Rattle.mime_costs.proofs.costs.first_row.Given as goal

abbrev pub invariant-loop-conversion : goal.invariant-loop-conversion
invariant-loop-conversion l = l.row.items ≡ map (λ c. cond (same c.destination l.to) (Some 0) None) (take l.conversion-index l.conversions)
