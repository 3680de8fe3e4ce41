use Rattle.std.proofs.Common.{◌≡◌, ◌≤◌, length}
use Rattle.line_words.specs.Blanks.{after_blanks}
use Rattle.line_words.proofs.blanks.after_blanks.Given as goal

abbrev pub invariant-loop-b : goal.invariant-loop-b
invariant-loop-b l = record { same : after_blanks l.rest ≡ after_blanks l.line; shorter : length l.rest ≤ length l.line }

abbrev pub decreases-loop-b : goal.decreases-loop-b
decreases-loop-b l = length l.rest
