use Rattle.std.proofs.Common.{◌≡◌, ◌≤◌, length, false}
use Rattle.mime_rules.specs.TestArguments.{text_from, bare, is_closing}
use Rattle.mime_rules.specs.RuleFields.{with_bytes}
use Rattle.mime_rules.proofs.arguments.push_blanks.Given as goal

abbrev pub invariant-loop-b : goal.invariant-loop-b
invariant-loop-b l = record { same : with_bytes l.text.items (text_from bare l.rest) ≡ with_bytes l.fn.text.items (text_from bare l.line); shorter : length l.rest ≤ length l.line; counts : is_closing l.rest ≡ false }

abbrev pub decreases-loop-b : goal.decreases-loop-b
decreases-loop-b l = length l.rest
