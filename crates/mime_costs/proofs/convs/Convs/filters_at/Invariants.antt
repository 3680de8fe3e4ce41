-- The programs of the lines so far.
use Rattle.std.proofs.Common.{◌≡◌, ◌≤◌, List, length, map, take}
use Rattle.std.specs.List.{All, Contains}
use Rattle.mime_costs.specs.Walks.{line_of}
use Rattle.mime_costs.specs.LeastWalk.{filters_of}
use Rattle.mime_costs.specs.declared.conversion.Conversion.{Conversion}
use Rattle.mime_costs.proofs.convs.Convs.filters_at.Given as goal

abbrev pub invariant-loop-line : goal.invariant-loop-line
invariant-loop-line l = record {
  few : length l.filters.items ≤ l.line-index;
  same : (walk : List Conversion) → All (Contains l.self) walk → map line_of walk ≡ l.lines → l.filters.items ≡ filters_of (take l.line-index walk);
}
