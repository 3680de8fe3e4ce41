-- The least costs of the conversions so far.
use Rattle.std.proofs.Common.{◌≡◌, length}
use Rattle.mime_costs.proofs.RowLaws.{AreGroups}
use Rattle.mime_costs.proofs.costs.group_costs.Given as goal

abbrev pub invariant-loop-i : goal.invariant-loop-i
invariant-loop-i l = record { long : length l.groups.items ≡ length l.conversions; same : AreGroups l.conversions l.row l.groups.items l.i }
