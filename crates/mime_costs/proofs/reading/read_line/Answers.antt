use Rattle.std.proofs.Common.{ap, sym, ◌∙◌}
use Rattle.mime_costs.specs.ConversionFiles.{of_words, with_filter}
use Rattle.mime_costs.specs.ConversionFields.{words_in}
use Rattle.mime_costs.proofs.ReadLaws.{bad_source, bad_destination, bad_cost, with_parts}
use Rattle.mime_costs.proofs.reading.read_line.Goals as goal

pub returns-in_default : goal.returns-in_default
returns-in_default c = ap (of_words c.args.number) c.in_default.ensures

pub returns-in_default-2 : goal.returns-in_default-2
returns-in_default-2 c = bad_source c.args.number c.args.line.now (words_in c.in-Some.words) c.in-Some.ensures (sym c.in_default-2.is ∙ c.in_ok-source.ensures)

pub returns-in_default-3 : goal.returns-in_default-3
returns-in_default-3 c =
    bad_destination c.args.number c.args.line.now (words_in c.in-Some.words) c.in-Some.ensures c.in-Some-2.source (sym c.in-Some-2.is ∙ c.in_ok-source.ensures)
    (sym c.in_default-3.is ∙ c.in_ok-destination.ensures)

pub returns-in_default-cost_of : goal.returns-in_default-cost_of
returns-in_default-cost_of c =
    bad_cost c.args.number c.args.line.now (words_in c.in-Some.words) c.in-Some.ensures c.in-Some-2.source (sym c.in-Some-2.is ∙ c.in_ok-source.ensures)
    c.in-Some-3.destination (sym c.in-Some-3.is ∙ c.in_ok-destination.ensures) c.in_default-cost_of.ensures

pub returns-in_default-4 : goal.returns-in_default-4
returns-in_default-4 c =
    ap (with_filter c.args.number c.in-Some-2.source c.in-Some-3.destination c.in-Some-cost_of.cost) (sym c.in_default-4.is ∙ c.in_ok-filter.ensures)
    ∙ with_parts c.args.number c.args.line.now (words_in c.in-Some.words) c.in-Some.ensures c.in-Some-2.source (sym c.in-Some-2.is ∙ c.in_ok-source.ensures)
    c.in-Some-3.destination (sym c.in-Some-3.is ∙ c.in_ok-destination.ensures) c.in-Some-cost_of.cost c.in-Some-cost_of.ensures

pub returns : goal.returns
returns c =
    ap (with_filter c.args.number c.in-Some-2.source c.in-Some-3.destination c.in-Some-cost_of.cost) (sym c.in-Some-4.is ∙ c.in_ok-filter.ensures)
    ∙ with_parts c.args.number c.args.line.now (words_in c.in-Some.words) c.in-Some.ensures c.in-Some-2.source (sym c.in-Some-2.is ∙ c.in_ok-source.ensures)
    c.in-Some-3.destination (sym c.in-Some-3.is ∙ c.in_ok-destination.ensures) c.in-Some-cost_of.cost c.in-Some-cost_of.ensures
