-- The texts so far.
use Rattle.std.proofs.Common.{◌≡◌, map, take}
use Rattle.serde_json.specs.View.{view}
use Rattle.spool_front.specs.JsonLines.{line_data}
use Rattle.spool_front.proofs.json_lines.lines_json.Given as goal

abbrev pub invariant-loop-line : goal.invariant-loop-line
invariant-loop-line l = map view l.array.items ≡ map line_data (take l.line-index l.lines)
