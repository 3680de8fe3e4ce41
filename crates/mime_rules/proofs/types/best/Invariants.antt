use Rattle.std.proofs.Common.{◌≡◌, length, map}
use Rattle.std.specs.Option.{option_map}
use Rattle.mime_rules.specs.BestType.{best}
use Rattle.mime_rules.specs.RuleFields.{alternative_of, subject_of}
use Rattle.mime_rules.proofs.BestLaws.{best_onto}
use Rattle.mime_rules.proofs.types.best.Given as goal

abbrev pub invariant-loop-last : goal.invariant-loop-last
invariant-loop-last l = best_onto (subject_of l.subject) (map alternative_of l.rest) (option_map (λ a. alternative_of a.now) l.found) ≡ best (subject_of l.subject) (map alternative_of l.alternatives)

abbrev pub decreases-loop-last : goal.decreases-loop-last
decreases-loop-last l = length l.rest
