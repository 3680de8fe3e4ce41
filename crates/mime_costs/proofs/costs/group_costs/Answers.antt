use Rattle.std.proofs.Common.{◌≡◌, ◌<◌, None, length, get_or, length-set, ap, ◌∙◌, arith}
use Rattle.std.specs.Vec.{vec_len}
use Rattle.std.proofs.lemmas.List.{get_or_read}
use Rattle.mime_costs.specs.Costs.{lesser}
use Rattle.mime_costs.specs.declared.links.Link.{Link}
use Rattle.mime_costs.proofs.RowLaws.{group_inside, groups_next}
use Rattle.mime_costs.proofs.costs.group_costs.Goals as goal

none : Link
none = record { group = 0; next = record { of_type = 0; of_super = 0; of_any = 0 } }

pub index-requires : goal.index-requires
unfolding none
index-requires c =
    let inside = group_inside c.args.conversions.now c.args.links.now c.args.row.now c.loop-i.i c.index-conversions-i.result none c.requires.links c.requires.row c.loop-i-test.true c.index-conversions-i.is in
    let size : vec_len c.loop-i.groups ≡ length c.loop-i.groups.items = c.loop-i.groups.ok.0 in
    let long = c.loop-i.invariant.long in
    omega (arith, inside, size, long)

pub index_mut-requires : goal.index_mut-requires
unfolding none
index_mut-requires c =
    let inside = group_inside c.args.conversions.now c.args.links.now c.args.row.now c.loop-i.i c.index-conversions-i.result none c.requires.links c.requires.row c.loop-i-test.true c.index-conversions-i.is in
    let size : vec_len c.loop-i.groups ≡ length c.loop-i.groups.items = c.loop-i.groups.ok.0 in
    let long = c.loop-i.invariant.long in
    omega (arith, inside, size, long)

pub loop-i-preserved : goal.loop-i-preserved
unfolding none
loop-i-preserved c =
    let groups = c.loop-i.groups.items in
    let group = (get_or c.args.links.now c.loop-i.i none).group in
    let inside = group_inside c.args.conversions.now c.args.links.now c.args.row.now c.loop-i.i c.index-conversions-i.result none c.requires.links c.requires.row c.loop-i-test.true c.index-conversions-i.is in
    let long = c.loop-i.invariant.long in
    let there : group < length groups = omega (arith, inside, long) in
    record {
      long = length-set groups group c.lesser.result ∙ long;
      same =
          groups_next c.args.conversions.now c.args.links.now c.args.row.now c.loop-i.i c.index-conversions-i.result none c.requires.links c.requires.row c.loop-i-test.true c.index-conversions-i.is
          groups c.cost_with.result c.lesser.result long c.loop-i.invariant.same c.cost_with.ensures (c.lesser.ensures ∙ ap (λ o. lesser o c.cost_with.result) (get_or_read groups group c.index.result.now there c.index.ensures None));
    }
