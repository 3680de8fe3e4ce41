-- The rows so far, and the next row.
use Rattle.std.proofs.Common.{◌≡◌}
use Rattle.mime_costs.specs.Costs.{IsTable, row_of}
use Rattle.mime_costs.proofs.chain.cost_rows.Given as goal

abbrev pub invariant-loop-count : goal.invariant-loop-count
invariant-loop-count l = record { rows : IsTable l.conversions l.to l._count l.rows.items; next : l.row.items ≡ row_of l.conversions l.to l._count }
