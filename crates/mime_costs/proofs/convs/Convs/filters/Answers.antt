use Rattle.std.proofs.Common.{map, subst, sym, ap, ◌∙◌}
use Rattle.std.specs.Prelude.{IfSome}
use Rattle.std.specs.Option.{option_map}
use Rattle.std.specs.List.{Contains, All}
use Rattle.mime_costs.specs.Walks.{line_of}
use Rattle.mime_costs.specs.ConversionFields.{worth_of_chain}
use Rattle.mime_costs.proofs.WalkLaws.{filters_found}
use Rattle.mime_costs.proofs.convs.Convs.filters.Goals as goal

pub filters_at-requires-clause-there : goal.filters_at-requires-clause-there
filters_at-requires-clause-there c =
    let lines : All (Contains (map line_of c.args.self.now)) c.in-Some.chain.lines.items = subst (λ o. IfSome o (λ chain. All (Contains (map line_of c.args.self.now)) chain.lines.items)) c.in-Some.is c.in_ok-chain.ensures.lines in
    subst (All (Contains (map line_of c.args.self.now))) (sym c.deref.ensures.value) lines

pub returns-in_ok-filters_at-in-Some : goal.returns-in_ok-filters_at-in-Some
returns-in_ok-filters_at-in-Some c = record {
  value =
      filters_found c.args.self.now c.args.from.now c.args.to.now c.in-Some.chain c.in_ok-filters_at-in-Some.field-0 (ap (option_map worth_of_chain) (sym c.in-Some.is) ∙ c.in_ok-chain.ensures.walk)
      (λ walk there lined. c.in_ok-filters_at-in-Some.ensures walk there (lined ∙ sym c.deref.ensures.value));
}
