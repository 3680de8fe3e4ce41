-- One gone slot less.
use Rattle.std.proofs.Common.{◌≡◌, Some, rules}
use Rattle.job_rows.specs.declared.slot.Slot.TheVariants.{Gone}
use Rattle.job_rows.proofs.Ending.{trimmed_more}
use Rattle.job_rows.proofs.slot.trim.Goals as goal

pub loop-slots-preserved : goal.loop-slots-preserved
loop-slots-preserved c =
    let popped : c.pop.result ≡ Some (Gone c.in-Some-Gone.field-0-0) = search rules in
    trimmed_more _ c.loop-slots.slots c.pop.new.self c.in-Some-Gone.field-0-0 c.loop-slots.invariant (rw popped at c.pop.ensures.items) (rw popped at c.pop.ensures.cases) c.pop.ensures.capacity
