-- The rows so far that are asked for.
use Rattle.std.proofs.Common.{◌≡◌, take}
use Rattle.std.specs.Prelude.{filter}
use Rattle.requested_attributes.specs.AttributeGroups.{is_wanted}
use Rattle.printer_answers.proofs.printers.wanted.Given as goal

abbrev pub invariant-loop-row : goal.invariant-loop-row
invariant-loop-row l = l.rows.items ≡ filter (λ row. is_wanted l.asked row.name.now row.group) (take l.row-index l.table)
