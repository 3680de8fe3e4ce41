-- At most all slots are gone.
use Rattle.std.proofs.Common.{arith}
use Rattle.job_rows.proofs.Holding.{length_held}
use Rattle.job_rows.proofs.slot.let_go.Goals as goal

pub overflow_sub-len : goal.overflow_sub-len
overflow_sub-len c = omega (arith, c.requires.count, c.trim.ensures.count, c.len.ensures, length_held c.trim.new.slots.items)
