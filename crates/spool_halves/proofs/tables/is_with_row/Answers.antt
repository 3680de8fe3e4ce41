use Rattle.std.proofs.Common.{rules, ◌≡◌, ◌∙◌, ◌≤◌, ap, subst, sym, arith}
use Rattle.std.specs.List.{AllByRecursion}
use Rattle.spool_types.specs.Limits.{greatest_number}
use Rattle.event_codec.specs.RowSpelling.{IsOrderedQueue}
use Rattle.split_rows.specs.Tellable.{IsTellable}
use Rattle.spool_core.specs.Checkpointing.{blank}
use Rattle.spool_core.proofs.AllLaws.{blank_fits}
use Rattle.std.specs.FinMap as finite
use Rattle.spool_types.specs.State.{Job}
use Rattle.split_rows.specs.Half.{takes}
use Rattle.split_rows.specs.Replaced.{replaced}
use Rattle.std.specs.Prelude.{filter, map, false, []}
use Rattle.spool_halves.proofs.Edited.{is_with_row}
use Rattle.spool_halves.proofs.HalfReports.{jobs_told, queues_told}
use Rattle.spool_halves.proofs.tables.is_with_row.Goals as goal

pub are_queues_with-requires-clause-whole : goal.are_queues_with-requires-clause-whole
are_queues_with-requires-clause-whole c =
    let s = c.args.table.now.state in
    let numbers : s.highest ≤ greatest_number = omega (arith, c.highest-highest.ensures.value, c.highest-highest.ensures.at_most) in
    subst (AllByRecursion IsOrderedQueue) (sym c.queues-queues.ensures.rows)
    (queues_told s (c.listings_are_loaded.ensures.listed s (blank s) c.queues-queues.ensures.legal numbers (blank_fits s)).0)

pub are_queues_with-requires-clause-part : goal.are_queues_with-requires-clause-part
are_queues_with-requires-clause-part c =
    let s = c.args.other.now.state in
    let numbers : s.highest ≤ greatest_number = omega (arith, c.highest-other_highest.ensures.value, c.highest-other_highest.ensures.at_most) in
    subst (AllByRecursion IsOrderedQueue) (sym c.queues-other_queues.ensures.rows)
    (queues_told s (c.listings_are_loaded.ensures.listed s (blank s) c.queues-other_queues.ensures.legal numbers (blank_fits s)).0)

pub are_jobs-requires-clause-whole : goal.are_jobs-requires-clause-whole
are_jobs-requires-clause-whole c =
    let s = c.args.table.now.state in
    let numbers : s.highest ≤ greatest_number = omega (arith, c.highest-highest.ensures.value, c.highest-highest.ensures.at_most) in
    subst (AllByRecursion IsTellable) (sym c.jobs-jobs.ensures.rows)
    (jobs_told s (c.listings_are_loaded.ensures.listed s (blank s) c.queues-queues.ensures.legal numbers (blank_fits s)).0)

pub are_jobs-requires-clause-part : goal.are_jobs-requires-clause-part
are_jobs-requires-clause-part c =
    let s = c.args.other.now.state in
    let numbers : s.highest ≤ greatest_number = omega (arith, c.highest-other_highest.ensures.value, c.highest-other_highest.ensures.at_most) in
    subst (AllByRecursion IsTellable) (sym c.jobs-other_jobs.ensures.rows)
    (jobs_told s (c.listings_are_loaded.ensures.listed s (blank s) c.queues-other_queues.ensures.legal numbers (blank_fits s)).0)

pub returns-then-has_queues : goal.returns-then-has_queues
returns-then-has_queues c = λ same.
    let s = c.args.table.now.state in
    let t = c.args.other.now.state in
    let row = c.args.row.now in
    let queues : finite.values t.queues ≡ map (replaced row) (finite.values s.queues) =
    sym c.queues-other_queues.ensures.rows ∙ c.in_ok-has_queues.ensures c.if-has_queues.true ∙ ap (map (replaced row)) c.queues-queues.ensures.rows in
    let jobs : finite.values t.jobs ≡ filter (λ (r : Job). takes false [] r.queue) (finite.values s.jobs) =
    sym c.jobs-other_jobs.ensures.rows ∙ c.in_ok-has_jobs.ensures same ∙ ap (filter (λ (r : Job). takes false [] r.queue)) c.jobs-jobs.ensures.rows in
    is_with_row s t c.queues-queues.ensures.legal c.queues-other_queues.ensures.legal row c.requires.there queues jobs (search rules) (search rules) (search rules)
