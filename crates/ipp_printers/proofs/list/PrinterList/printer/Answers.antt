use Rattle.std.proofs.Common.{◌++◌, ap, ◌∙◌}
use Rattle.std.specs.List.{find}
use Rattle.ipp_printers.specs.MediaNames.{same}
use Rattle.ipp_printers.specs.PrinterFacts.{section_named, properties_for}
use Rattle.ipp_printers.specs.SectionFields.{parts_of, properties_of}
use Rattle.ipp_printers.proofs.SectionLaws.{section_found}
use Rattle.ipp_printers.proofs.list.PrinterList.printer.Goals as goal

pub returns : goal.returns
returns c =
    let queue = c.args.queue.now in
    let sections = c.self.inside.queues.items in
    record {
      value =
          c.new.ensures
          ∙ ap (λ l. l ++ c.deref-2.result.now)
          (c.properties_of.ensures ∙ ap properties_of (c.find_section.ensures ∙ ap (find (λ section. same section.queue queue)) c.deref.ensures.value) ∙ section_found queue sections)
          ∙ ap (λ l. section_named queue (parts_of sections) ++ l) c.deref-2.ensures.value
          ∙ ap (properties_for queue) c.self.view_is;
    }
