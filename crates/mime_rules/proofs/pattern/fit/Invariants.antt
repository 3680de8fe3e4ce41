use Rattle.std.proofs.Common.{◌≡◌, ◌≤◌, true, length, map}
use Rattle.mime_rules.specs.Tests.{some_end}
use Rattle.mime_rules.specs.Patterns.{matching}
use Rattle.mime_rules.specs.RuleFields.{piece_of}
use Rattle.mime_rules.proofs.pattern.fit.Given as goal

abbrev pub invariant-loop-piece : goal.invariant-loop-piece
invariant-loop-piece l = record {
  same : matching (map piece_of l.pieces) l.rest ≡ matching (map piece_of l.pattern) l.name;
  leads : some_end (matching (map piece_of l.pattern)) l.name ≡ true → some_end (matching (map piece_of l.pieces)) l.rest ≡ true;
  shorter : length l.pieces ≤ length l.pattern;
}

abbrev pub decreases-loop-piece : goal.decreases-loop-piece
decreases-loop-piece l = length l.pieces
