-- The row is among those that follow.
use Rattle.std.proofs.Common.{◌≡◌, drop}
use Rattle.service_client.specs.Mirrors.{row_named}
use Rattle.service_client.proofs.rows.row_named.Given as goal

abbrev pub invariant-loop-row : goal.invariant-loop-row
invariant-loop-row l = row_named (drop l.row-index l.rows) l.name ≡ row_named l.rows l.name
