-- One more date is listed.
use Rattle.std.proofs.Common.{arith}
use Rattle.job_table.proofs.DueDates.{listed_end, listed_more}
use Rattle.job_table.proofs.table.due.list.Goals as goal

pub loop-at-preserved : goal.loop-at-preserved
loop-at-preserved c =
    let inv = c.loop-at.invariant in
    record {
      items = listed_more c.args.dates.now.items c.args.first c.loop-at.at inv.low c.args.jobs.now.items c.loop-at.jobs.items c.list_at.new.jobs.items inv.items c.in_ok-list_at.ensures;
      low = omega (arith, inv.low);
      high = λ le. omega (arith, c.loop-at-test.true);
      none = λ lt. absurd (omega (arith, lt, inv.low, c.loop-at-test.true));
    }

pub returns : goal.returns
returns c =
    let inv = c.loop-at.invariant in
    listed_end c.args.dates.now.items c.args.first c.args.last c.loop-at.at (omega (arith, c.loop-at-test.false)) inv.high inv.none c.args.jobs.now.items c.loop-at.jobs.items inv.items
