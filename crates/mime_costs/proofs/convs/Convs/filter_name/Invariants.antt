-- None of the conversions so far has the line.
use Rattle.std.proofs.Common.{◌≡◌, ℕ, ◌<◌, get_or}
use Rattle.mime_costs.specs.declared.conversion.Conversion.{Conversion}
use Rattle.mime_costs.proofs.convs.Convs.filter_name.Given as goal

abbrev pub invariant-loop-conversion : goal.invariant-loop-conversion
invariant-loop-conversion l = (k : ℕ) (d : Conversion) → k < l.conversion-index → (get_or l.conversion-items k d).line ≡ l.line → ⊥
