use Rattle.std.proofs.Common.{◌∙◌}
use Rattle.spool_disk.proofs.Moments.{twice_still}
use Rattle.spool_halves.proofs.filling.put_rows.Goals as goal

pub loop-job-preserved : goal.loop-job-preserved
loop-job-preserved g c = record {
  may = c.in_ok-put_job.ensures.may;
  state = c.put_job.ensures.state ∙ c.loop-job.invariant.state;
  held = c.put_job.ensures.held ∙ c.loop-job.invariant.held;
  still = twice_still g.S.Disk.device c.args.whole.now.disk c.loop-job.whole.disk c.put_job.new.whole.disk g.met.S.Disk.lawful c.loop-job.invariant.still c.put_job.ensures.still;
}

pub returns-in_err-put_job-clause-still : goal.returns-in_err-put_job-clause-still
returns-in_err-put_job-clause-still g c =
    twice_still g.S.Disk.device c.args.whole.now.disk c.loop-job.whole.disk c.put_job.new.whole.disk g.met.S.Disk.lawful c.loop-job.invariant.still c.put_job.ensures.still
