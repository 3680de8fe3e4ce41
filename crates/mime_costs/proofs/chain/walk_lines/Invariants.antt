-- The lines so far, and the lines of the rest of the walk.
use Rattle.std.proofs.Common.{◌≡◌, ℕ, suc, ◌+◌, ◌≤◌, List, ◌++◌, Some, map}
use Rattle.mime_costs.specs.Costs.{best, least_in, is_taken, row_of, IsTable}
use Rattle.mime_costs.specs.Walks.{line_of}
use Rattle.mime_costs.proofs.chain.walk_lines.Given as goal

abbrev pub invariant-loop-left : goal.invariant-loop-left
invariant-loop-left l = record {
  short : l.left ≤ 15;
  same : (to : List ℕ) → IsTable l.conversions to 15 l.rows → l.lines.items ++ map line_of (best l.conversions to l.left l.cost l.positions) ≡ map line_of (best l.conversions to (l.fn.size.rest + 1) l.fn.size.cost l.fn.positions);
  there : (to : List ℕ) (k : ℕ) → IsTable l.conversions to 15 l.rows → l.left ≡ suc k → least_in (is_taken l.conversions l.positions) l.conversions (row_of l.conversions to k) ≡ Some l.cost;
}

abbrev pub decreases-loop-left : goal.decreases-loop-left
decreases-loop-left l = l.left
