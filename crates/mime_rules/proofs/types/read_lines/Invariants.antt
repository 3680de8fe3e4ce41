use Rattle.std.proofs.Common.{◌≡◌, ◌++◌, drop, map}
use Rattle.mime_lines.specs.LineFields.{line_of}
use Rattle.mime_rules.specs.RuleLines.{alternatives_in, warnings_in}
use Rattle.mime_rules.specs.RuleFields.{alternative_of}
use Rattle.mime_rules.proofs.types.read_lines.Given as goal

abbrev pub invariant-loop-line : goal.invariant-loop-line
invariant-loop-line l = record {
  types : map alternative_of l.alternatives.items ++ alternatives_in (map line_of (drop l.line-index l.lines)) ≡ alternatives_in (map line_of l.lines);
  warnings : l.warnings.items ++ warnings_in (map line_of (drop l.line-index l.lines)) ≡ warnings_in (map line_of l.lines);
}
