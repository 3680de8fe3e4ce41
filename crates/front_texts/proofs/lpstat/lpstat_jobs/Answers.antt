use Rattle.command_lines.proofs.Pieces.{next_piece}
use Rattle.std.proofs.Common.{[]}
use Rattle.front_texts.specs.Lpstat.{job_entry}
use Rattle.front_texts.proofs.lpstat.lpstat_jobs.Goals as goal

pub loop-job-preserved : goal.loop-job-preserved
loop-job-preserved c = next_piece (job_entry c.args.long) c.args.jobs.now c.loop-job.job-index c.job-item.result [] c.loop-job.text.items c.push_job.new.text.items c.job-item.is c.loop-job-test.true c.loop-job.invariant c.in_ok-push_job.ensures
