use Rattle.std.proofs.Common.{◌≡◌, length}
use Rattle.job_rows.specs.RowSlots.{held}
use Rattle.job_rows.proofs.iter.IterIterator.next.Given as goal

-- Only gone slots were skipped.
abbrev pub invariant-loop-slot : goal.invariant-loop-slot
invariant-loop-slot l = held l.self-inside.slots.now ≡ l.fn.self

abbrev pub decreases-loop-slot : goal.decreases-loop-slot
decreases-loop-slot l = length l.self-inside.slots.now
