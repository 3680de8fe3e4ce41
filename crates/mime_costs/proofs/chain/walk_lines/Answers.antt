use Rattle.std.proofs.Common.{◌≡◌, suc, ◌+◌, ◌-◌, ◌<◌, ◌++◌, map, get_or, subst, sym, ap, ◌∙◌, arith}
use Rattle.std.specs.List.{All}
use Rattle.mime_costs.specs.SourceIndex.{sources_of, positions_in}
use Rattle.mime_costs.specs.Costs.{IsSmall, best, least_in, is_taken, row_of}
use Rattle.mime_costs.specs.Walks.{line_of}
use Rattle.mime_costs.specs.declared.links.Link.{Link}
use Rattle.mime_costs.proofs.RowLaws.{row_small, link_at}
use Rattle.mime_costs.proofs.StepLaws.{cost_less, lines_begin, next_there, best_none, row_there}
use Rattle.mime_costs.proofs.chain.walk_lines.Goals as goal

pub loop-left-init : goal.loop-left-init
loop-left-init c = record {
  short = (let h : c.args.size.rest < 15 = c.requires.rest in omega arith);
  same = λ to table. ap (λ l. l ++ map line_of (best c.args.conversions.now to (c.args.size.rest + 1) c.args.size.cost c.args.positions)) c.in_ok-lines.ensures.items;
  there = λ to k table e.
      let d = row_there c.args.rows.now table in
      let same : k ≡ c.args.size.rest = omega arith in
      ap (λ n. least_in (is_taken c.args.conversions.now c.args.positions) c.args.conversions.now (row_of c.args.conversions.now to n)) same
      ∙ ap (least_in (is_taken c.args.conversions.now c.args.positions) c.args.conversions.now) (sym (table.row c.args.size.rest d c.requires.rest)) ∙ c.requires.there d;
}

pub first_step-i-requires-clause-small : goal.first_step-i-requires-clause-small
first_step-i-requires-clause-small c =
    let k = c.loop-left.left - 1 in
    let s = c.loop-left.invariant.short in
    let t = c.loop-left-test.true in
    let less : k < 15 = omega arith in
    subst (All IsSmall) (sym (c.deref.ensures.value ∙ ap (λ r. r.items) c.index-rows-left.is ∙ c.requires.table.1.row k c.index-rows-left.result less))
    (row_small c.args.conversions.now c.requires.cheap c.requires.table.0 k (omega arith))

pub overflow_sub-cost : goal.overflow_sub-cost
overflow_sub-cost c =
    let file = c.args.conversions.now in
    let k = c.loop-left.left - 1 in
    let x = c.index-conversions-i.result in
    let s = c.loop-left.invariant.short in
    let t = c.loop-left-test.true in
    let less : k < 15 = omega arith in
    let rows = c.deref.ensures.value ∙ ap (λ r. r.items) c.index-rows-left.is ∙ c.requires.table.1.row k c.index-rows-left.result less in
    let l = cost_less file c.requires.table.0 k c.loop-left.cost c.loop-left.positions c.first_step-i.result x c.deref.result.now c.first_step-i.ensures.inside c.index-conversions-i.is rows c.first_step-i.ensures.begins c.first_step-i.ensures.first in
    let e = c.get-cost.ensures.value in
    omega (arith, l, e)

none : Link
none = record { group = 0; next = record { of_type = 0; of_super = 0; of_any = 0 } }

pub loop-left-preserved : goal.loop-left-preserved
unfolding none
loop-left-preserved c =
    let file = c.args.conversions.now in
    let k = c.loop-left.left - 1 in
    let m = c.loop-left.cost in
    let i = c.first_step-i.result in
    let x = c.index-conversions-i.result in
    let row = c.deref.result.now in
    let s = c.loop-left.invariant.short in
    let t = c.loop-left-test.true in
    let less : k < 15 = omega arith in
    let left : suc k ≡ c.loop-left.left = omega arith in
    let inside = c.first_step-i.ensures.inside in
    let here = c.index-conversions-i.is in
    let led : (get_or c.args.links.now i none).next ≡ positions_in (sources_of file) x.destination =
    ap (λ l. l.next) (link_at file c.args.links.now i x none c.requires.links inside) ∙ ap (λ y. positions_in (sources_of file) y.destination) (sym here) in
    record {
      short = omega arith;
      same = λ to table.
          lines_begin file to k m c.loop-left.positions i x row inside here (c.deref.ensures.value ∙ ap (λ r. r.items) c.index-rows-left.is ∙ table.row k c.index-rows-left.result less)
          c.first_step-i.ensures.begins c.first_step-i.ensures.first (get_or c.args.links.now i none).next c.get-cost.result led c.get-cost.ensures.value c.loop-left.lines.items c.push.new.self.items c.in_ok-push.ensures.items
          ∙ ap (λ n. c.loop-left.lines.items ++ map line_of (best file to n m c.loop-left.positions)) left
          ∙ c.loop-left.invariant.same to table;
      there = λ to j table e.
          next_there file to k m c.loop-left.positions i x row inside here (c.deref.ensures.value ∙ ap (λ r. r.items) c.index-rows-left.is ∙ table.row k c.index-rows-left.result less)
          c.first_step-i.ensures.begins c.first_step-i.ensures.first (get_or c.args.links.now i none).next c.get-cost.result led c.get-cost.ensures.value j e;
    }

pub returns : goal.returns
returns c = λ to table.
    let none : 0 ≡ c.loop-left.left = (let t = c.loop-left-test.false in omega arith) in
    best_none c.args.conversions.now to c.loop-left.cost c.loop-left.positions c.loop-left.lines.items (map line_of (best c.args.conversions.now to (c.args.size.rest + 1) c.args.size.cost c.args.positions))
    (ap (λ n. c.loop-left.lines.items ++ map line_of (best c.args.conversions.now to n c.loop-left.cost c.loop-left.positions)) none ∙ c.loop-left.invariant.same to table)
