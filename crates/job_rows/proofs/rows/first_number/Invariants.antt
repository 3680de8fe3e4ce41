use Rattle.std.proofs.Common.{◌≡◌, length}
use Rattle.job_rows.specs.RowSlots.{first_number}
use Rattle.job_rows.proofs.rows.first_number.Given as goal

-- Only gone slots were skipped.
abbrev pub invariant-loop-slot : goal.invariant-loop-slot
invariant-loop-slot l = first_number l.left ≡ first_number l.slots

abbrev pub decreases-loop-slot : goal.decreases-loop-slot
decreases-loop-slot l = length l.left
