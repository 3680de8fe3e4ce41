-- The least cost among the conversions so far.
use Rattle.std.proofs.Common.{◌≡◌, take}
use Rattle.mime_costs.specs.Costs.{least_in, is_taken}
use Rattle.mime_costs.proofs.costs.cost_from.Given as goal

abbrev pub invariant-loop-i : goal.invariant-loop-i
invariant-loop-i l = l.least ≡ least_in (is_taken l.conversions l.positions) (take l.i l.conversions) (take l.i l.row)
