use Rattle.std.proofs.Common.{ℕ, ◌<◌}
use Rattle.spool_scripts.specs.Cut.{IsCut}
use Rattle.spool_scripts.proofs.cut.next_cut.Given as goal

abbrev pub invariant-loop-at : goal.invariant-loop-at
invariant-loop-at l = (k : ℕ) → k < l.at → IsCut l.script l.line k → ⊥
