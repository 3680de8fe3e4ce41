use Rattle.std.proofs.Common.{◌≡◌, false, length, map}
use Rattle.std.specs.Prelude.{MatchOption}
use Rattle.mime_rules.specs.Patterns.{matching}
use Rattle.mime_rules.specs.RuleFields.{piece_of, rest_matches, size_of}
use Rattle.mime_rules.proofs.pattern.matches.Given as goal

abbrev pub invariant-loop-found : goal.invariant-loop-found
invariant-loop-found l = MatchOption l.found (matching (map piece_of l.pattern) l.name ≡ false) (λ r. matching (map piece_of l.pattern) l.name ≡ rest_matches (map piece_of r.0.now) r.1.now)

abbrev pub decreases-loop-found : goal.decreases-loop-found
decreases-loop-found l = size_of (λ r. length r.0.now) l.found
