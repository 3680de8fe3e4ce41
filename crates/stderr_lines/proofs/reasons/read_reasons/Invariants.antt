-- The reasons so far are read.
use Rattle.std.proofs.Common.{◌≡◌, ◌++◌, length}
use Rattle.std.specs.Option.{option_copied}
use Rattle.stderr_lines.specs.ReasonLines.{reasons_of}
use Rattle.stderr_lines.specs.Rests.{reasons_from, rest_weight}
use Rattle.stderr_lines.proofs.reasons.read_reasons.Given as goal

abbrev pub invariant-loop-rest : goal.invariant-loop-rest
invariant-loop-rest l = l.reasons.items ++ reasons_from (option_copied l.rest) ≡ reasons_of l.text

abbrev pub decreases-loop-rest : goal.decreases-loop-rest
decreases-loop-rest l = rest_weight (option_copied l.rest)
