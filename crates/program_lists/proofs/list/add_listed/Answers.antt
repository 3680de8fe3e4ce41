use Rattle.std.proofs.Common.{rules, ap, sym, not, ◌∙◌}
use Rattle.program_lists.proofs.ListLaws.{found_any}
use Rattle.program_lists.proofs.list.add_listed.Goals as goal

pub returns-then-is_some-clause-fits : goal.returns-then-is_some-clause-fits
returns-then-is_some-clause-fits g c =
    let any = found_any c.args.listed.name c.args.list.now.items c.find.result (search rules) in
    ap not (sym c.if-is_some.true ∙ c.is_some.ensures ∙ any)

pub returns-clause-fits : goal.returns-clause-fits
returns-clause-fits g c =
    let any = found_any c.args.listed.name c.args.list.now.items c.find.result (search rules) in
    ap not (sym c.if-is_some.false ∙ c.is_some.ensures ∙ any)
