-- The lists still have at most 64 items.
use Rattle.std.proofs.Common.{◌≤◌, length, ap, sym, subst, ◌∙◌}
use Rattle.row_effects.specs.Keys.{most_kept}
use Rattle.row_effects.specs.EffectFold.{reasons_after, attributes_after}
use Rattle.row_effects.proofs.Order.{stays_in_order}
use Rattle.row_effects.proofs.queue.fold_queue.Goals as goal

pub unwrap-requires : goal.unwrap-requires
unwrap-requires c =
    let same = c.apply_all.ensures.reasons ∙ ap (reasons_after c.args.effects.items) (c.roomy.ensures.items ∙ c.into_vec-reasons.ensures.value ∙ c.replace.ensures.value) in
    c.new.ensures.short.1 (subst (λ words. length words ≤ most_kept) (sym same) (stays_in_order c.args.effects.items c.args.row.now c.requires.order).few_reasons)

pub unwrap-requires-2 : goal.unwrap-requires-2
unwrap-requires-2 c =
    let same = c.apply_all.ensures.attributes ∙ ap (attributes_after c.args.effects.items) (c.roomy-2.ensures.items ∙ c.into_vec-attributes.ensures.value ∙ c.replace-2.ensures.value) in
    c.new-2.ensures.short.1 (subst (λ kept. length kept ≤ most_kept) (sym same) (stays_in_order c.args.effects.items c.args.row.now c.requires.order).few_attributes)
