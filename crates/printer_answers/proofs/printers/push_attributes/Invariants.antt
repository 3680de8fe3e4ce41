-- The attributes of the rows so far.
use Rattle.std.proofs.Common.{◌≡◌, ◌++◌, map, take}
use Rattle.std.specs.List.{filter_map}
use Rattle.requested_attributes.specs.AttributeGroups.{attribute_of}
use Rattle.printer_answers.specs.PrinterSources.{stated}
use Rattle.printer_answers.proofs.printers.push_attributes.Given as goal

abbrev pub invariant-loop-row : goal.invariant-loop-row
invariant-loop-row l = l.attributes ≡ l.initial.attributes ++ filter_map attribute_of (map (stated l.server l.printer l.facts) (take l.row-index l.rows))
