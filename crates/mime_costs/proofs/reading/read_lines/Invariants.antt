-- The conversions and warnings of the lines so far.
use Rattle.std.proofs.Common.{◌≡◌, take}
use Rattle.std.specs.List.{flat_map}
use Rattle.mime_lines.specs.LineFields.{line_of}
use Rattle.mime_costs.specs.ConversionFiles.{conversion_of, taken, refused}
use Rattle.mime_costs.proofs.reading.read_lines.Given as goal

abbrev pub invariant-loop-line : goal.invariant-loop-line
invariant-loop-line l = record {
  conversions : l.conversions.items ≡ flat_map (λ line. taken (conversion_of (line_of line))) (take l.line-index l.line-items);
  warnings : l.warnings.items ≡ flat_map (λ line. refused line.number (conversion_of (line_of line))) (take l.line-index l.line-items);
}
