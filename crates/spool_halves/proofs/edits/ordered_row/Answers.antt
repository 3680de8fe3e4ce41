-- The row is one of the table, so its lists are in order.
use Rattle.std.proofs.Common.{◌≤◌, subst, sym, arith}
use Rattle.std.specs.Ordering.{nat_cmp}
use Rattle.std.specs.Cmp.Lexicographic.{nat_list_cmp_total, slice_cmp}
use Rattle.std.specs.FinMap as finite
use Rattle.spool_types.specs.Limits.{greatest_number}
use Rattle.event_codec.specs.RowSpelling.{IsOrderedQueue}
use Rattle.spool_core.specs.Checkpointing.{blank}
use Rattle.spool_core.proofs.AllLaws.{blank_fits}
use Rattle.spool_halves.proofs.Edited.{ordered_so}
use Rattle.spool_halves.proofs.Elements.{all_there, value_there}
use Rattle.spool_halves.proofs.HalfReports.{queues_told}
use Rattle.spool_halves.proofs.edits.ordered_row.Goals as goal

pub returns-in-Ok-clause-ordered : goal.returns-in-Ok-clause-ordered
returns-in-Ok-clause-ordered c =
    let s = c.args.table.now.state in
    let q = c.args.row.now in
    let numbers : s.highest ≤ greatest_number = omega (arith, c.highest-highest.ensures.value, c.highest-highest.ensures.at_most) in
    let told = queues_told s (c.listings_are_loaded.ensures.listed s (blank s) c.queues-queues.ensures.legal numbers (blank_fits s)).0 in
    let here = all_there IsOrderedQueue (finite.values s.queues) q told (value_there (slice_cmp nat_cmp) nat_list_cmp_total s.queues q.name q c.requires.there) in
    subst IsOrderedQueue (sym c.in-Ok.ensures) (ordered_so c.args.change.now q here)
