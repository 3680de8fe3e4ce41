use Rattle.std.proofs.Common.{vec_len}
use Rattle.job_rows.proofs.Ending.{IsTrimmed}
use Rattle.job_rows.proofs.slot.trim.Given as goal

abbrev pub invariant-loop-slots : goal.invariant-loop-slots
invariant-loop-slots l = IsTrimmed l.fn.slots l.slots

abbrev pub decreases-loop-slots : goal.decreases-loop-slots
decreases-loop-slots l = vec_len l.slots
