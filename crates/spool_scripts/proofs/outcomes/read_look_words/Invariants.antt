use Rattle.std.proofs.Common.{◌≡◌, ◌++◌, length}
use Rattle.spool_scripts.specs.Outcomes.{look_words}
use Rattle.spool_scripts.proofs.outcomes.read_look_words.Given as goal

abbrev pub invariant-loop-ended : goal.invariant-loop-ended
invariant-loop-ended l = l.words ≡ look_words l.looks.items ++ l.rest

abbrev pub decreases-loop-ended : goal.decreases-loop-ended
decreases-loop-ended l = length l.rest
