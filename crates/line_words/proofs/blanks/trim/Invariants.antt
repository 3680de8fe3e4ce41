-- The rest has the same trimmed bytes.
use Rattle.std.proofs.Common.{◌≡◌, length}
use Rattle.line_words.specs.Blanks.{trimmed, without_end}
use Rattle.line_words.proofs.blanks.trim.Given as goal

abbrev pub invariant-loop-b : goal.invariant-loop-b
invariant-loop-b l = without_end l.rest ≡ trimmed l.bytes

abbrev pub decreases-loop-b : goal.decreases-loop-b
decreases-loop-b l = length l.rest
