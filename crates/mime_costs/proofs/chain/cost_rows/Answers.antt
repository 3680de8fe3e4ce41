use Rattle.std.proofs.Common.{◌+◌, map, subst, sym, ap, ◌∙◌, arith}
use Rattle.std.specs.List.{All}
use Rattle.mime_costs.specs.Costs.{IsSmall, IsTable, least_in, is_of_group, next_cost}
use Rattle.mime_costs.proofs.RowLaws.{row_small, next_is}
use Rattle.mime_costs.proofs.SizeLaws.{table_more}
use Rattle.mime_costs.proofs.chain.cost_rows.Goals as goal

pub group_costs-requires-clause-small : goal.group_costs-requires-clause-small
group_costs-requires-clause-small c =
    subst (All IsSmall) (sym (c.deref.ensures.value ∙ c.loop-count.invariant.next)) (row_small c.args.conversions.now c.requires.cheap c.args.to.now c.loop-count._count (omega arith))

pub loop-count-preserved : goal.loop-count-preserved
loop-count-preserved c =
    let file = c.args.conversions.now in
    let to = c.args.to.now in
    let n = c.loop-count._count in
    record {
      rows = subst (IsTable file to (n + 1)) (sym c.in_ok-push.ensures.items) (table_more file to n c.loop-count.rows.items c.loop-count.row c.loop-count.invariant.rows c.loop-count.invariant.next);
      next =
          c.in_ok-next.ensures
          ∙ ap (λ groups. map (next_cost groups) c.args.links.now) c.deref-in-loop-count.ensures.value
          ∙ ap (map (next_cost c.in_ok-groups.groups.items)) c.requires.links
          ∙ next_is file to n c.in_ok-groups.groups.items (λ g. c.in_ok-groups.ensures g ∙ ap (least_in (is_of_group file g) file) (c.deref.ensures.value ∙ c.loop-count.invariant.next));
    }
