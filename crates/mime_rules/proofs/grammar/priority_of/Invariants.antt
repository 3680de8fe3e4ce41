use Rattle.std.proofs.Common.{◌≡◌, drop, map}
use Rattle.mime_rules.specs.RuleGrammar.{last_priority, priority_of}
use Rattle.mime_rules.specs.RuleFields.{token_of}
use Rattle.mime_rules.proofs.grammar.priority_of.Given as goal

abbrev pub invariant-loop-i : goal.invariant-loop-i
invariant-loop-i l = last_priority l.priority (map token_of (drop l.i l.tokens.items)) ≡ priority_of (map token_of l.tokens.items)
