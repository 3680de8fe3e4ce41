-- The closure compares a queue's name with that of the job's queue.
use Rattle.std.proofs.Common.{rules, ◌≡◌, Some, sym, subst}
use Rattle.std.specs.Cmp.Lexicographic.{slice_cmp}
use Rattle.std.specs.List.Sorted.{IsBinarySearchResult}
use Rattle.std.specs.Ordering.{nat_cmp}
use Rattle.std.proofs.lemmas.Fn.{always_returns_same}
use Rattle.spool_types.specs.declared.rows.QueueRow.{QueueRow}
use Rattle.spool_types.specs.State.{job_at}
use Rattle.print_rounds.proofs.BlockLaws.{IsPlaceOf, place_none, place_some, placed}
use Rattle.print_rounds.proofs.busy.queue_position.Goals as goal

pub returns-clause-place : goal.returns-clause-place
returns-clause-place c =
    let s = c.args.table.now.state in
    let r = c.in_ok-row.row.now.job in
    let rows = c.queues.result.now in
    let there : job_at s c.args.job ≡ Some r = sym c.in_ok-row.ensures.row in
    let by_name : IsBinarySearchResult (λ (y : QueueRow). slice_cmp nat_cmp y.name r.queue) rows c.binary_search_by-place.result =
    c.binary_search_by-place.ensures.position (λ y. slice_cmp nat_cmp y.name r.queue) (always_returns_same _ _ _ (λ a r g called. (search rules, search rules))) in
    let place = placed s rows c.queues.ensures.names r c.binary_search_by-place.result c.binary_search_by-place.ensures.bound by_name in
    place_some s rows c.queues.ensures.names c.args.job r there c.ok.result (subst (IsPlaceOf s rows c.queues.ensures.names r) (sym c.ok.ensures.value) place)

pub returns-clause-none : goal.returns-clause-none
returns-clause-none c =
    let s = c.args.table.now.state in
    let r = c.in_ok-row.row.now.job in
    let rows = c.queues.result.now in
    let there : job_at s c.args.job ≡ Some r = sym c.in_ok-row.ensures.row in
    let by_name : IsBinarySearchResult (λ (y : QueueRow). slice_cmp nat_cmp y.name r.queue) rows c.binary_search_by-place.result =
    c.binary_search_by-place.ensures.position (λ y. slice_cmp nat_cmp y.name r.queue) (always_returns_same _ _ _ (λ a r g called. (search rules, search rules))) in
    let place = placed s rows c.queues.ensures.names r c.binary_search_by-place.result c.binary_search_by-place.ensures.bound by_name in
    place_none s rows c.queues.ensures.names c.queues.ensures.legal c.args.job r there c.ok.result (subst (IsPlaceOf s rows c.queues.ensures.names r) (sym c.ok.ensures.value) place)
