use Rattle.std.proofs.Common.{◌≤◌, subst, sym, arith}
use Rattle.std.specs.List.{AllByRecursion}
use Rattle.spool_types.specs.Limits.{greatest_number}
use Rattle.event_codec.specs.RowSpelling.{IsOrderedQueue}
use Rattle.split_rows.specs.Tellable.{IsTellable}
use Rattle.spool_core.specs.Checkpointing.{blank}
use Rattle.spool_core.proofs.AllLaws.{blank_fits}
use Rattle.spool_halves.proofs.HalfReports.{jobs_told, queues_told}
use Rattle.spool_halves.proofs.tables.is_half.Goals as goal

pub are_queues-requires-clause-whole : goal.are_queues-requires-clause-whole
are_queues-requires-clause-whole c =
    let s = c.args.whole.now.state in
    let numbers : s.highest ≤ greatest_number = omega (arith, c.highest-highest.ensures.value, c.highest-highest.ensures.at_most) in
    subst (AllByRecursion IsOrderedQueue) (sym c.queues-queues.ensures.rows)
    (queues_told s (c.listings_are_loaded.ensures.listed s (blank s) c.queues-queues.ensures.legal numbers (blank_fits s)).0)

pub are_queues-requires-clause-part : goal.are_queues-requires-clause-part
are_queues-requires-clause-part c =
    let s = c.args.part.now.state in
    let numbers : s.highest ≤ greatest_number = omega (arith, c.highest-part_highest.ensures.value, c.highest-part_highest.ensures.at_most) in
    subst (AllByRecursion IsOrderedQueue) (sym c.queues-part_queues.ensures.rows)
    (queues_told s (c.listings_are_loaded.ensures.listed s (blank s) c.queues-part_queues.ensures.legal numbers (blank_fits s)).0)

pub are_jobs-requires-clause-whole : goal.are_jobs-requires-clause-whole
are_jobs-requires-clause-whole c =
    let s = c.args.whole.now.state in
    let numbers : s.highest ≤ greatest_number = omega (arith, c.highest-highest.ensures.value, c.highest-highest.ensures.at_most) in
    subst (AllByRecursion IsTellable) (sym c.jobs-jobs.ensures.rows)
    (jobs_told s (c.listings_are_loaded.ensures.listed s (blank s) c.queues-queues.ensures.legal numbers (blank_fits s)).0)

pub are_jobs-requires-clause-part : goal.are_jobs-requires-clause-part
are_jobs-requires-clause-part c =
    let s = c.args.part.now.state in
    let numbers : s.highest ≤ greatest_number = omega (arith, c.highest-part_highest.ensures.value, c.highest-part_highest.ensures.at_most) in
    subst (AllByRecursion IsTellable) (sym c.jobs-part_jobs.ensures.rows)
    (jobs_told s (c.listings_are_loaded.ensures.listed s (blank s) c.queues-part_queues.ensures.legal numbers (blank_fits s)).0)
