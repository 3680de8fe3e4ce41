use Rattle.std.proofs.Common.{arith}
use Rattle.front_texts.proofs.EntryLaws.{entry_more}
use Rattle.front_texts.proofs.lpq_form.push_entries.Goals as goal

pub loop-job-preserved : goal.loop-job-preserved
loop-job-preserved c = record {
  all = entry_more c.args.long _ _ _ c.loop-job.job-index c.args.jobs.now c.job-item.result _ _ _ c.job-item.is c.loop-job-test.true c.in_ok-rank.ensures.added c.in_ok-rank.ensures.rank c.loop-job.invariant.all;
  low = let h = c.loop-job.invariant.low in let k = c.in_ok-rank.ensures.low in omega arith;
}
