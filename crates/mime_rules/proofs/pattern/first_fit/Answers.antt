use Rattle.std.proofs.Common.{sym, ◌∙◌, map}
use Rattle.mime_rules.specs.Patterns.{matching}
use Rattle.mime_rules.specs.RuleFields.{piece_of, rest_matches}
use Rattle.mime_rules.proofs.PatternLaws.{first_value}
use Rattle.mime_rules.proofs.pattern.first_fit.Goals as goal

pub returns-in-Some-clause-value : goal.returns-in-Some-clause-value
returns-in-Some-clause-value c =
    sym c.loop-found.invariant
    ∙ first_value (matching (map piece_of c.args.pattern.now)) c.loop-found.rest.now (rest_matches (map piece_of c.in-Some.found.0.now) c.in-Some.found.1.now) c.in-Some.ensures.value c.in-Some.ensures.leads
