-- The closure returns whether a slot has a row.
use Rattle.std.proofs.Common.{IsTrue, List, map, rules, sym, ap, subst, ◌∙◌}
use Rattle.std.specs.FinMap as finite
use Rattle.std.specs.Ordering.{nat_cmp}
use Rattle.std.proofs.lemmas.Fn.{filter_same}
use Rattle.job_rows.specs.declared.slot.Slot.{Slot}
use Rattle.job_rows.specs.RowSlots.{slot_entry, held, numbers, gone_count, EndsHeld}
use Rattle.job_rows.proofs.Ending.{is_row, held_swept, numbers_swept, none_swept, sorted_swept, ends_swept}
use Rattle.job_rows.proofs.slot.sweep.Goals as goal

pub returns-clause-rows : goal.returns-clause-rows
returns-clause-rows c =
    let left = filter_same _ is_row _ (λ x b f' k. search rules) _ _ c.retain.ensures.filtered in
    ap held left ∙ held_swept c.args.slots.now.items

pub returns-clause-numbers : goal.returns-clause-numbers
returns-clause-numbers c =
    let left = filter_same _ is_row _ (λ x b f' k. search rules) _ _ c.retain.ensures.filtered in
    ap numbers left ∙ numbers_swept c.args.slots.now.items

pub returns-clause-order : goal.returns-clause-order
returns-clause-order c =
    let left = filter_same _ is_row _ (λ x b f' k. search rules) _ _ c.retain.ensures.filtered in
    subst (λ (ss : List Slot). IsTrue (finite.is_sorted nat_cmp (map slot_entry ss))) (sym left) (sorted_swept c.args.slots.now.items c.requires)

pub returns-clause-none : goal.returns-clause-none
returns-clause-none c =
    let left = filter_same _ is_row _ (λ x b f' k. search rules) _ _ c.retain.ensures.filtered in
    ap gone_count left ∙ none_swept c.args.slots.now.items

pub returns-clause-last : goal.returns-clause-last
returns-clause-last c =
    let left = filter_same _ is_row _ (λ x b f' k. search rules) _ _ c.retain.ensures.filtered in
    subst EndsHeld (sym left) (ends_swept c.args.slots.now.items)
