-- None of the conversions so far begins such a walk.
use Rattle.std.proofs.Common.{◌≡◌, ℕ, ◌<◌, false}
use Rattle.mime_costs.specs.Costs.{is_step}
use Rattle.mime_costs.specs.declared.conversion.Conversion.{Conversion}
use Rattle.mime_costs.proofs.chain.first_step.Given as goal

abbrev pub invariant-loop-i : goal.invariant-loop-i
invariant-loop-i l = (j : ℕ) (d : Conversion) → j < l.i → is_step l.conversions l.row l.positions l.cost j d ≡ false
