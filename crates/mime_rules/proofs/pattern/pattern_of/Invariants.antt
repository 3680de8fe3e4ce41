use Rattle.std.proofs.Common.{◌≡◌, None, length, map}
use Rattle.mime_rules.specs.Patterns.{pieces_in}
use Rattle.mime_rules.specs.RuleFields.{piece_of}
use Rattle.mime_rules.proofs.PatternLaws.{with_pieces}
use Rattle.mime_rules.proofs.pattern.pattern_of.Given as goal

abbrev pub invariant-pieces : goal.invariant-pieces
invariant-pieces l = with_pieces (map piece_of l.pieces.items) (pieces_in None l.rest) ≡ pieces_in None l.text

abbrev pub decreases-pieces : goal.decreases-pieces
decreases-pieces l = length l.rest
