use Rattle.std.proofs.Common.{None, Some, get_or, length, subst, sym, ap, ◌∙◌}
use Rattle.std.specs.List.{All}
use Rattle.mime_costs.specs.Costs.{IsTable, IsRow, IsBestSize, costs_from}
use Rattle.mime_costs.proofs.SizeLaws.{some_chain, no_size, table_rows}
use Rattle.mime_costs.proofs.StepLaws.{row_there}
use Rattle.mime_costs.proofs.chain.find_chain.Goals as goal

pub best_size-requires-clause-rows : goal.best_size-requires-clause-rows
best_size-requires-clause-rows c =
    subst (All (IsRow (length c.args.conversions.now))) (sym c.deref.ensures.value) (table_rows c.args.conversions.now c.requires.cheap c.args.to.now c.in_ok-rows.rows.items c.in_ok-rows.ensures)

pub returns-in-Some : goal.returns-in-Some
returns-in-Some c =
    some_chain c.args.conversions.now c.requires.rising c.args.to.now c.in_ok-rows.rows.items (row_there c.in_ok-rows.rows.items c.in_ok-rows.ensures) c.in_ok-rows.ensures c.in-Some.size c.args.positions
    (subst (λ rows. IsBestSize (costs_from c.args.conversions.now c.args.positions rows) (Some c.in-Some.size)) c.deref.ensures.value c.in-Some.ensures)
    c.in_ok-lines-in-Some.lines.items
    (c.in_ok-lines-in-Some.ensures c.args.to.now (subst (IsTable c.args.conversions.now c.args.to.now 15) (sym c.deref-in-Some.ensures.value) c.in_ok-rows.ensures))

pub returns : goal.returns
returns c = λ from here other.
    no_size c.args.conversions.now from c.args.to.now c.in_ok-rows.rows.items (row_there c.in_ok-rows.rows.items c.in_ok-rows.ensures) c.in_ok-rows.ensures other
    (λ k. ap (λ p. get_or (costs_from c.args.conversions.now p c.in_ok-rows.rows.items) k None) (sym here) ∙ ap (λ rows. get_or (costs_from c.args.conversions.now c.args.positions rows) k None) (sym c.deref.ensures.value) ∙ c.in-None.ensures k)
