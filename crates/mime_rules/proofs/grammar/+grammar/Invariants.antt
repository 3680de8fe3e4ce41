use Rattle.std.proofs.Common.{◌+◌, ◌*◌, ◌≤◌, Bool, Option, length, map}
use Rattle.mime_rules.specs.RuleReading.{Read}
use Rattle.mime_rules.specs.Tests.{Subject}
use Rattle.mime_rules.specs.Tokens.{Token}
use Rattle.mime_rules.specs.RuleFields.{token_of, meaning_of, ListSays, ItemSays}
use Rattle.mime_rules.proofs.GrammarLaws.{HereSays, any_before, all_before}
use Rattle.mime_rules.proofs.grammar.+grammar.Given as goal

abbrev pub decreases-list : goal.decreases-list
decreases-list l = 5 * l.groups + 4

abbrev pub decreases-item : goal.decreases-item
decreases-item l = 5 * l.groups + 3

abbrev pub decreases-factor : goal.decreases-factor
decreases-factor l = 5 * l.groups + 2

abbrev pub decreases-operand : goal.decreases-operand
decreases-operand l = 5 * l.groups + 1

abbrev pub decreases-group : goal.decreases-group
decreases-group l = 5 * l.groups

abbrev pub invariant-item-factors : goal.invariant-item-factors
invariant-item-factors l = record {
  says : (r : Read Token (Option (Subject → Bool))) → ItemSays l.groups (map token_of l.tokens.items) r → ItemSays l.groups (map token_of l.fn.tokens.items) (all_before (map meaning_of l.factors.items) r);
  shorter : length l.tokens.items ≤ length l.fn.tokens.items;
}

abbrev pub decreases-item-factors : goal.decreases-item-factors
decreases-item-factors l = length l.tokens.items

abbrev pub invariant-list-items : goal.invariant-list-items
invariant-list-items l = record {
  says : (r : Read Token (Subject → Bool)) → HereSays l.groups (map token_of l.tokens.items) r → ListSays l.groups (map token_of l.fn.tokens.items) (any_before (map meaning_of l.items.items) r);
  shorter : length l.tokens.items ≤ length l.fn.tokens.items;
}

abbrev pub decreases-list-items : goal.decreases-list-items
decreases-list-items l = length l.tokens.items
