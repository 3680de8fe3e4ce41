use Rattle.std.proofs.Common.{cond, Some, None, is_some, ap, sym, ◌∙◌}
use Rattle.std.specs.List.{list_any}
use Rattle.ipp_printers.specs.PropertyValues.{kind_of}
use Rattle.ipp_printers.specs.PrinterSections.{is_of}
use Rattle.ipp_printers.specs.declared.fault.LineFault.TheVariants.{PropertyTwice}
use Rattle.ipp_printers.proofs.SectionLaws.{some_now, any_found}
use Rattle.ipp_printers.proofs.list.push_property.Goals as goal

pub returns-then-is_some-clause-fault : goal.returns-then-is_some-clause-fault
returns-then-is_some-clause-fault c =
    ap (λ v. cond v (Some PropertyTwice) None)
    (sym c.if-is_some.true ∙ c.is_some.ensures ∙ some_now c.find_kind.result ∙ ap is_some c.find_kind.ensures
    ∙ any_found (is_of c.kind.result) c.deref.result.now
    ∙ ap (λ k. list_any (is_of k) c.deref.result.now) c.kind.ensures.value
    ∙ ap (list_any (is_of (kind_of c.args.property))) c.deref.ensures.value)

pub returns-clause-fault : goal.returns-clause-fault
returns-clause-fault c =
    ap (λ v. cond v (Some PropertyTwice) None)
    (sym c.if-is_some.false ∙ c.is_some.ensures ∙ some_now c.find_kind.result ∙ ap is_some c.find_kind.ensures
    ∙ any_found (is_of c.kind.result) c.deref.result.now
    ∙ ap (λ k. list_any (is_of k) c.deref.result.now) c.kind.ensures.value
    ∙ ap (list_any (is_of (kind_of c.args.property))) c.deref.ensures.value)
