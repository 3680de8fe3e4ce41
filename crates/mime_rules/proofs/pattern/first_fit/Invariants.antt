use Rattle.std.proofs.Common.{◌≡◌, length, map}
use Rattle.mime_rules.specs.Tests.{some_end}
use Rattle.mime_rules.specs.Patterns.{matching}
use Rattle.mime_rules.specs.RuleFields.{piece_of}
use Rattle.mime_rules.proofs.pattern.first_fit.Given as goal

abbrev pub invariant-loop-found : goal.invariant-loop-found
invariant-loop-found l = some_end (matching (map piece_of l.pattern)) l.rest ≡ some_end (matching (map piece_of l.pattern)) l.name

abbrev pub decreases-loop-found : goal.decreases-loop-found
decreases-loop-found l = length l.rest
