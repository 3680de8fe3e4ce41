-- The answer for a slot.
use Rattle.std.specs.FinMap as finite
use Rattle.print_rounds.proofs.FreeLaws.{answered}
use Rattle.print_rounds.proofs.slots.has_child.Goals as goal

pub returns : goal.returns
returns g c = answered c.is_running.result (finite.get c.args.runner.now c.args.job) c.is_running.ensures.yes c.is_running.ensures.no
