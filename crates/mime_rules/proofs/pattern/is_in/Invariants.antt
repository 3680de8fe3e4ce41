use Rattle.std.proofs.Common.{◌≡◌, length}
use Rattle.mime_rules.specs.Patterns.{is_in}
use Rattle.mime_rules.proofs.pattern.is_in.Given as goal

abbrev pub invariant-loop-first : goal.invariant-loop-first
invariant-loop-first l = is_in l.rest l.x ≡ is_in l.set l.x

abbrev pub decreases-loop-first : goal.decreases-loop-first
decreases-loop-first l = length l.rest
