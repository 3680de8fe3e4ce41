use Rattle.std.proofs.Common.{◌∷◌, ◌++◌, [], List, map, sym, subst}
use Rattle.std.specs.List.{flat_map}
use Rattle.std.specs.FinMap as finite
use Rattle.spool_types.specs.State.{Job}
use Rattle.spool_types.specs.declared.rows.QueueRow.{QueueRow}
use Rattle.spool_types.specs.declared.listing.Row.{Row}
use Rattle.spool_types.specs.declared.listing.Row.TheVariants.{Head, Queue}
use Rattle.job_table.specs.Listing.{head_of, listing}
use Rattle.spool_core.specs.Checkpointing.{blank, blank_rows}
use Rattle.spool_core.specs.Measuring.{IsSumMore}
use Rattle.spool_core.proofs.AllLaws.{blank_listing}
use Rattle.spool_core.proofs.FillLaws.{sum_head, sum_listed, sum_then}
use Rattle.spool_core.proofs.ListingLaws.{if_ok}
use Rattle.spool_core.proofs.Numbers.{jobs_found}
use Rattle.spool_core.proofs.spool.measuring.listing_len.Goals as goal

pub returns-clause-sum : goal.returns-clause-sum
returns-clause-sum c =
    let s = c.args.table.now.state in
    let head : List Row = Head (head_of s) ∷ [] in
    let queues : List Row = map (λ (q : QueueRow). Queue q) (finite.values s.queues) in
    let jobs : List Row = flat_map blank_rows (finite.values s.jobs) in
    if_ok c.jobs_len.result c.jobs_len.ensures.sum
    (λ sum more.
    sum_listed (listing s (blank s)) sum
    (subst (λ (rows : List Row). IsSumMore rows 0 sum) (sym (blank_listing s (jobs_found s c.queues.ensures.legal)))
    (sum_then (head ++ queues) jobs 0 c.in_ok-sum.sum sum
    (sum_then head queues 0 18 c.in_ok-sum.sum (sum_head (head_of s)) (subst (λ (qs : List QueueRow). IsSumMore (map (λ q. Queue q) qs) 18 c.in_ok-sum.sum) c.queues.ensures.rows c.in_ok-sum.ensures.sum))
    (subst (λ (rs : List Job). IsSumMore (flat_map blank_rows rs) c.in_ok-sum.sum sum) c.jobs.ensures.rows more))))
