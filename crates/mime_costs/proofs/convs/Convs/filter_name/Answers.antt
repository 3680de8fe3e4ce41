use Rattle.std.proofs.Common.{◌≡◌, map, subst, sym, ap, ◌∙◌}
use Rattle.std.specs.List.{Contains}
use Rattle.mime_costs.specs.SourceIndex.{Ascends}
use Rattle.mime_costs.specs.Walks.{line_of}
use Rattle.mime_costs.proofs.StepLaws.{same_line}
use Rattle.mime_costs.proofs.WalkLaws.{missed}
use Rattle.mime_costs.proofs.convs.Convs.filter_name.Goals as goal

pub returns-then-conversion-line : goal.returns-then-conversion-line
returns-then-conversion-line c =
    let file : c.deref-conversion-items.result.now ≡ c.args.self.now = c.deref-conversion-items.ensures.value ∙ c.self.view_is in
    let x = c.conversion-item.result in
    let there : Contains c.args.self.now x = subst (λ f. Contains f x) file (c.loop-conversion.conversion-index, c.loop-conversion-test.true, sym c.conversion-item.is) in
    record { value = λ v in_file same. ap (λ y. y.filter) (same_line 1 c.args.self.now x v (subst (Ascends 1) c.self.view_is c.self.invariant.rising) there in_file (c.if-conversion-line.true ∙ sym same)) }

pub unreachable-requires : goal.unreachable-requires
unreachable-requires c =
    missed c.deref-conversion-items.result.now c.args.line c.loop-conversion.conversion-index
    (subst (λ f. Contains (map line_of f) c.args.line) (sym (c.deref-conversion-items.ensures.value ∙ c.self.view_is)) c.requires)
    c.loop-conversion-test.false c.loop-conversion.invariant
