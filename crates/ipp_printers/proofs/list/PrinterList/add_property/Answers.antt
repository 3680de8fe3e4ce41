use Rattle.std.proofs.Common.{◌≡◌, suc, ◌-◌, [], ◌∷◌, ◌++◌, ◌≤◌, length, cond, Some, None, subst, ap, ◌∙◌, arith, IfOk}
use Rattle.std.proofs.lemmas.Bool.Decides.{nat_tests}
use Rattle.std.specs.List.{list_any}
use Rattle.std.specs.Vec.{vec_len}
use Rattle.ipp_printers.specs.PropertyValues.{kind_of}
use Rattle.ipp_printers.specs.PrinterSections.{Sections, is_of, last_of, onto_last}
use Rattle.ipp_printers.specs.declared.fault.LineFault.TheVariants.{PropertyTwice}
use Rattle.ipp_printers.specs.declared.list.Section.{Section}
use Rattle.ipp_printers.proofs.SectionLaws.{last_at, last_set}
use Rattle.ipp_printers.proofs.list.PrinterList.add_property.Goals as goal

pub returns-clause-fault : goal.returns-clause-fault
returns-clause-fault c =
    let queues = c.self.inside.queues in
    let some : 1 ≤ vec_len queues = grind (arith, nat_tests) in
    let last : suc (c.len-last.result - 1) ≡ length queues.items = omega (arith, c.len-last.ensures, queues.ok.0) in
    let list =
    ap (λ (s : Section). s.properties.items) c.index_mut.ensures.value ∙ last_at c.self.inside.all.items queues.items c.index_mut.result.now (c.len-last.result - 1) last
    ∙ ap (λ (s : Sections). last_of s.0 s.1) c.self.view_is in
    subst (λ l. IfOk c.push_property-2.result (λ fault. fault ≡ cond (list_any (is_of (kind_of c.args.property)) l) (Some PropertyTwice) None)) list c.push_property-2.ensures.fault

pub returns-clause-added : goal.returns-clause-added
returns-clause-added c = λ ok.
    let queues = c.self.inside.queues in
    let some : 1 ≤ vec_len queues = grind (arith, nat_tests) in
    let last : suc (c.len-last.result - 1) ≡ length queues.items = omega (arith, c.len-last.ensures, queues.ok.0) in
    last_set c.self.inside.all.items c.args.property queues.items c.index_mut.result.now (record { queue = c.index_mut.result.now.queue; properties = c.push_property-2.new.properties }) (c.len-last.result - 1) last
    (ap (λ (s : Section). s.queue) c.index_mut.ensures.value) (c.push_property-2.ensures.added ok ∙ ap (λ (s : Section). s.properties.items ++ c.args.property ∷ []) c.index_mut.ensures.value)
    ∙ ap (λ (s : Sections). onto_last c.args.property s.0 s.1) c.self.view_is
