-- The best size of the rows so far.
use Rattle.std.proofs.Common.{take}
use Rattle.mime_costs.specs.Costs.{IsBestSize, costs_from}
use Rattle.mime_costs.proofs.chain.best_size.Given as goal

abbrev pub invariant-loop-i : goal.invariant-loop-i
invariant-loop-i l = IsBestSize (costs_from l.conversions l.positions (take l.i l.rows)) l.best
