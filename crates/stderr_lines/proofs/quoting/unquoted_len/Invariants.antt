-- The bytes so far are counted.
use Rattle.std.proofs.Common.{◌≡◌, ◌+◌, ◌≤◌, length, drop}
use Rattle.line_words.specs.Quoting.{said}
use Rattle.line_words.specs.declared.quoting.Quoting.TheVariants.{Bare}
use Rattle.stderr_lines.proofs.quoting.unquoted_len.Given as goal

abbrev pub invariant-loop-b : goal.invariant-loop-b
invariant-loop-b l = record { same : l.count + length (said l.quote_state (drop l.b-index l.text)) ≡ length (said Bare l.text); small : l.count ≤ l.b-index }
