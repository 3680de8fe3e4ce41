-- The rows of both tables that are asked for.
use Rattle.requested_attributes.specs.AttributeGroups.{is_wanted_row}
use Rattle.printer_answers.specs.PrinterRows.{description_rows, template_rows}
use Rattle.printer_answers.specs.PrinterSources.{stated}
use Rattle.printer_answers.proofs.SelectedRows.{chosen_of_two}
use Rattle.printer_answers.proofs.printers.PrinterSelection.of.Goals as goal

pub returns : goal.returns
returns c = λ s d f.
    chosen_of_two (stated s d f) (is_wanted_row c.args.asked) c.description_table.result.now c.template_table.result.now
    c.in_ok-description.description.items c.in_ok-template.template.items (description_rows s d f) (template_rows d)
    c.in_ok-description.ensures c.in_ok-template.ensures (c.description_table.ensures s d f) (c.template_table.ensures s d f)
