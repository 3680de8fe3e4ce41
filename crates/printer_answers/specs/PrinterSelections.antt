-- The rows of a selection, as the facts state them.
use Rattle.std.specs.Prelude.{List, ◌++◌, map}
use Rattle.ipp_printers.specs.declared.property.Property.{Property}
use Rattle.requested_attributes.specs.AttributeGroups.{StatedRow}
use Rattle.printer_answers.specs.PrinterSources.{stated}
use Rattle.printer_answers.specs.declared.facts.PrinterFacts.{PrinterFacts}
use Rattle.ipp_answers.specs.declared.facts.Server.{Server}
use Rattle.printer_answers.specs.declared.printers.PrinterSelection.{PrinterSelection}

abbrev pub selected_rows : PrinterSelection → Server → List Property → PrinterFacts → List StatedRow
selected_rows selection s d f = map (stated s d f) selection.description.items ++ map (stated s d f) selection.template.items
