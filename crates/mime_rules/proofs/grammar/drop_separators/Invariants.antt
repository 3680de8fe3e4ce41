use Rattle.std.proofs.Common.{◌≡◌, ◌≤◌, length, map}
use Rattle.mime_rules.specs.RuleGrammar.{after_separators}
use Rattle.mime_rules.specs.RuleFields.{token_of}
use Rattle.mime_rules.proofs.grammar.drop_separators.Given as goal

abbrev pub invariant-loop-token : goal.invariant-loop-token
invariant-loop-token l = record { same : after_separators (map token_of l.tokens.items) ≡ after_separators (map token_of l.fn.tokens.items); shorter : length l.tokens.items ≤ length l.fn.tokens.items }

abbrev pub decreases-loop-token : goal.decreases-loop-token
decreases-loop-token l = length l.tokens.items
