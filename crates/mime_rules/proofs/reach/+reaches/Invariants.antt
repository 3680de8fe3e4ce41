use Rattle.std.proofs.Common.{◌≡◌, drop, max, min}
use Rattle.mime_rules.specs.Reach.{reach_of_all}
use Rattle.mime_rules.proofs.reach.+reaches.Given as goal

abbrev pub invariant-reach_of_all-loop-rule : goal.invariant-reach_of_all-loop-rule
invariant-reach_of_all-loop-rule l = max l.most (min l.len (reach_of_all (drop l.rule-index l.rules))) ≡ min l.len (reach_of_all l.rules)
