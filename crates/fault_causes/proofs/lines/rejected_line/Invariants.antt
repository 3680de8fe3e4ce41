-- The first line is still to come.
use Rattle.std.proofs.Common.{◌≡◌, [], map, drop}
use Rattle.fault_causes.specs.RejectedLines.{rejected_after}
use Rattle.fault_causes.proofs.lines.rejected_line.Given as goal

abbrev pub invariant-loop-line : goal.invariant-loop-line
invariant-loop-line l =
    rejected_after l.earlier.items (map (λ line. line.now) (drop l.line-index l.line-items)) ≡ rejected_after [] (map (λ line. line.now) l.line-items)
