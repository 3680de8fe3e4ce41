use Rattle.std.proofs.Common.{◌≡◌, drop, max, min}
use Rattle.mime_rules.specs.Reach.{reach_of_alternatives}
use Rattle.mime_rules.proofs.reach.reach_of_alternatives.Given as goal

abbrev pub invariant-loop-alternative : goal.invariant-loop-alternative
invariant-loop-alternative l = max l.most (min l.len (reach_of_alternatives (drop l.alternative-index l.alternatives))) ≡ min l.len (reach_of_alternatives l.alternatives)
