-- The closure compares a row's name with the given name.
use Rattle.std.proofs.Common.{rules}
use Rattle.std.specs.Ordering.{nat_cmp}
use Rattle.std.specs.Cmp.Lexicographic.{slice_cmp, nat_list_cmp_total}
use Rattle.std.proofs.lemmas.Fn.{always_returns_same}
use Rattle.job_table.proofs.Rows.{searched}
use Rattle.job_table.proofs.store.lookup.queue_position.Goals as goal

pub returns-clause-found : goal.returns-clause-found
returns-clause-found c =
    let by_name = c.binary_search_by.ensures.position (λ r. slice_cmp nat_cmp r.name c.args.name.now) (always_returns_same _ _ _ (λ a r g called. (search rules, search rules))) in
    (searched (slice_cmp nat_cmp) nat_list_cmp_total (λ r. r.name) (λ r. r) c.args.queues.now c.requires c.args.name.now _ c.binary_search_by.ensures.bound by_name).found

pub returns-clause-absent : goal.returns-clause-absent
returns-clause-absent c =
    let by_name = c.binary_search_by.ensures.position (λ r. slice_cmp nat_cmp r.name c.args.name.now) (always_returns_same _ _ _ (λ a r g called. (search rules, search rules))) in
    (searched (slice_cmp nat_cmp) nat_list_cmp_total (λ r. r.name) (λ r. r) c.args.queues.now c.requires c.args.name.now _ c.binary_search_by.ensures.bound by_name).absent
