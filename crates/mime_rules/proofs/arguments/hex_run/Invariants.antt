use Rattle.std.proofs.Common.{◌≡◌, ◌≤◌, length}
use Rattle.mime_rules.specs.TestArguments.{text_from, hex}
use Rattle.mime_rules.specs.RuleFields.{with_bytes}
use Rattle.mime_rules.proofs.arguments.hex_run.Given as goal

abbrev pub invariant-pairs : goal.invariant-pairs
invariant-pairs l = record { same : with_bytes l.text.items (text_from hex l.rest) ≡ with_bytes l.fn.text.items (text_from hex l.line); shorter : length l.rest ≤ length l.line }

abbrev pub decreases-pairs : goal.decreases-pairs
decreases-pairs l = length l.rest
