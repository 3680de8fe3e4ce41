use Rattle.std.proofs.Common.{◌≡◌, drop}
use Rattle.mime_rules.specs.RuleFields.{all_mean, any_means, subject_of}
use Rattle.mime_rules.proofs.meaning.+holds.Given as goal

abbrev pub invariant-all_hold-loop-rule : goal.invariant-all_hold-loop-rule
invariant-all_hold-loop-rule l = all_mean (drop l.rule-index l.rules) (subject_of l.subject) ≡ all_mean l.rules (subject_of l.subject)

abbrev pub invariant-any_holds-loop-rule : goal.invariant-any_holds-loop-rule
invariant-any_holds-loop-rule l = any_means (drop l.rule-index l.rules) (subject_of l.subject) ≡ any_means l.rules (subject_of l.subject)
