-- The row is among those that follow.
use Rattle.std.proofs.Common.{◌≡◌, drop}
use Rattle.ipp_facts.specs.QueueReports.{value_of}
use Rattle.ipp_facts.proofs.words.value_of.Given as goal

abbrev pub invariant-loop-row : goal.invariant-loop-row
invariant-loop-row l = value_of (drop l.row-index l.rows) l.name ≡ value_of l.rows l.name
