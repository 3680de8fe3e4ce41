use Rattle.std.proofs.Common.{◌≤◌, ℕ, Bool, Option, length, map}
use Rattle.mime_rules.specs.RuleReading.{Read}
use Rattle.mime_rules.specs.Tests.{Subject}
use Rattle.mime_rules.specs.Tokens.{Token}
use Rattle.mime_rules.specs.RuleFields.{token_of, with_bangs, FactorSays}
use Rattle.mime_rules.proofs.grammar.takes_bangs.Given as goal

abbrev pub invariant-bangs : goal.invariant-bangs
invariant-bangs l = record {
  bangs : (groups : ℕ) (r : Read Token (Option (Subject → Bool))) → FactorSays groups (map token_of l.tokens.items) r → FactorSays groups (map token_of l.fn.tokens.items) (with_bangs l.is_odd r);
  shorter : length l.tokens.items ≤ length l.fn.tokens.items;
}

abbrev pub decreases-bangs : goal.decreases-bangs
decreases-bangs l = length l.tokens.items
