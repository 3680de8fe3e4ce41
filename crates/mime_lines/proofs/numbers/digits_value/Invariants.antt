-- The number of the digits so far, limited to the greatest number plus one.
use Rattle.std.proofs.Common.{◌≡◌, ◌≤◌, drop, min}
use Rattle.mime_lines.specs.RuleNumbers.{read_on}
use Rattle.mime_lines.proofs.numbers.digits_value.Given as goal

abbrev pub invariant-loop-b : goal.invariant-loop-b
invariant-loop-b l = record { same : min 4294967296 (read_on l.base l.value (drop l.b-index l.digits)) ≡ min 4294967296 (read_on l.base 0 l.digits); small : l.value ≤ 4294967296 }
