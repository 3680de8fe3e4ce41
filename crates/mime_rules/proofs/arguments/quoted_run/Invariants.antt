use Rattle.std.proofs.Common.{◌≡◌, ◌≤◌, length}
use Rattle.mime_rules.specs.TestArguments.{text_from, quoted}
use Rattle.mime_rules.specs.RuleFields.{with_bytes}
use Rattle.mime_rules.proofs.arguments.quoted_run.Given as goal

abbrev pub invariant-bytes : goal.invariant-bytes
invariant-bytes l = record { same : with_bytes l.text.items (text_from (quoted l.quote) l.rest) ≡ with_bytes l.fn.text.items (text_from (quoted l.quote) l.line); shorter : length l.rest ≤ length l.line }

abbrev pub decreases-bytes : goal.decreases-bytes
decreases-bytes l = length l.rest
