use Rattle.front_texts.proofs.AgedLaws.{aged_end, aged_more}
use Rattle.front_texts.proofs.aged_jobs.read_aged_jobs.Goals as goal

pub loop-row-preserved : goal.loop-row-preserved
loop-row-preserved c = aged_more c.args.now _ _ c.loop-row.row-index c.args.rows.now c.row-item.result _ _ _ c.row-item.is c.loop-row-test.true c.in_ok-end_job.ensures c.in_ok-push_row.ensures c.loop-row.invariant

pub returns : goal.returns
returns c = record { value = aged_end c.args.now _ c.loop-row.row-index c.args.rows.now _ _ _ c.loop-row-test.false c.in_ok-push_aged.ensures c.loop-row.invariant }
