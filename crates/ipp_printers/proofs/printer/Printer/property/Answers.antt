use Rattle.std.proofs.Common.{ap, ◌∙◌}
use Rattle.ipp_printers.specs.PrinterSections.{is_of}
use Rattle.ipp_printers.specs.PrinterFacts.{property_of}
use Rattle.ipp_printers.proofs.SectionLaws.{find_first, find_rest}
use Rattle.ipp_printers.proofs.printer.Printer.property.Goals as goal

pub returns-in-Some : goal.returns-in-Some
returns-in-Some c =
    find_first (is_of c.args.kind) c.self.inside.own.now c.self.inside.all.now c.in-Some.property.now c.in-Some.ensures
    ∙ ap (property_of c.args.kind) c.self.view_is

pub returns-in-None : goal.returns-in-None
returns-in-None c =
    c.find_kind-in-None.ensures
    ∙ find_rest (is_of c.args.kind) c.self.inside.own.now c.self.inside.all.now c.in-None.ensures
    ∙ ap (property_of c.args.kind) c.self.view_is
