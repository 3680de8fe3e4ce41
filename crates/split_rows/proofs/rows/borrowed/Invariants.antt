-- The rows so far are in the list.
use Rattle.std.proofs.Common.{◌≡◌}
use Rattle.split_rows.proofs.rows.borrowed.Given as goal

abbrev pub invariant-loop-row : goal.invariant-loop-row
invariant-loop-row l = l.list.items ≡ l.yielded
