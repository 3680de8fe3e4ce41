-- The closure returns a slot's number.
use Rattle.std.proofs.Common.{rules}
use Rattle.std.specs.Ordering.{nat_cmp}
use Rattle.std.specs.Cmp.{nat_cmp_total}
use Rattle.std.proofs.lemmas.List.Sorted.{answers_always}
use Rattle.job_rows.specs.RowSlots.{number_of}
use Rattle.job_rows.proofs.Rising.{searched}
use Rattle.job_rows.proofs.slot.position_of.Goals as goal

pub returns-clause-found : goal.returns-clause-found
returns-clause-found c =
    let by_key = c.binary_search_by_key.ensures.position number_of (answers_always _ _ _ (λ f a r g called. search rules)) in
    (searched nat_cmp nat_cmp_total number_of (λ s. s) c.args.slots.now c.requires c.args.id _ c.binary_search_by_key.ensures.bound by_key).found

pub returns-clause-absent : goal.returns-clause-absent
returns-clause-absent c =
    let by_key = c.binary_search_by_key.ensures.position number_of (answers_always _ _ _ (λ f a r g called. search rules)) in
    (searched nat_cmp nat_cmp_total number_of (λ s. s) c.args.slots.now c.requires c.args.id _ c.binary_search_by_key.ensures.bound by_key).absent
