use Rattle.std.proofs.Common.{ℕ, List, cond, Some, None, is_some, ap, sym, ◌∙◌}
use Rattle.std.specs.List.{list_any, find}
use Rattle.ipp_printers.specs.MediaNames.{same}
use Rattle.ipp_printers.specs.PrinterSections.{Sections, is_named}
use Rattle.ipp_printers.specs.declared.fault.LineFault.TheVariants.{QueueTwice}
use Rattle.ipp_printers.proofs.SectionLaws.{some_now, section_any}
use Rattle.ipp_printers.proofs.list.PrinterList.add_queue.Goals as goal

pub returns-then-is_some-clause-fault : goal.returns-then-is_some-clause-fault
returns-then-is_some-clause-fault c =
    let queue = c.args.queue in
    let sections = c.self.inside.queues.items in
    ap (λ v. cond v (Some QueueTwice) None)
    (sym c.if-is_some.true ∙ c.is_some.ensures ∙ some_now c.find_section.result ∙ ap is_some c.find_section.ensures
    ∙ ap (λ l. is_some (find (λ section. same section.queue c.as_str.result.now) l)) c.deref.ensures.value
    ∙ ap (λ (q : List ℕ). is_some (find (λ section. same section.queue q) sections)) c.as_str.ensures.value
    ∙ section_any queue sections ∙ ap (λ (s : Sections). list_any (is_named queue) s.1) c.self.view_is)

pub returns-clause-fault : goal.returns-clause-fault
returns-clause-fault c =
    let queue = c.args.queue in
    let sections = c.self.inside.queues.items in
    ap (λ v. cond v (Some QueueTwice) None)
    (sym c.if-is_some.false ∙ c.is_some.ensures ∙ some_now c.find_section.result ∙ ap is_some c.find_section.ensures
    ∙ ap (λ l. is_some (find (λ section. same section.queue c.as_str.result.now) l)) c.deref.ensures.value
    ∙ ap (λ (q : List ℕ). is_some (find (λ section. same section.queue q) sections)) c.as_str.ensures.value
    ∙ section_any queue sections ∙ ap (λ (s : Sections). list_any (is_named queue) s.1) c.self.view_is)
