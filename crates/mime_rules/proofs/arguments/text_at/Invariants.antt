use Rattle.std.proofs.Common.{◌≡◌, ◌≤◌, length}
use Rattle.line_words.specs.Blanks.{after_blanks}
use Rattle.mime_rules.specs.TestArguments.{text_from, bare}
use Rattle.mime_rules.specs.RuleFields.{with_bytes}
use Rattle.mime_rules.proofs.arguments.text_at.Given as goal

abbrev pub invariant-runs : goal.invariant-runs
invariant-runs l = record { same : with_bytes l.text.items (text_from bare l.rest) ≡ text_from bare (after_blanks l.line); shorter : length l.rest ≤ length l.line }

abbrev pub decreases-runs : goal.decreases-runs
decreases-runs l = length l.rest
