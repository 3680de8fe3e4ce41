use Rattle.std.specs.Option.{option_map}
use Rattle.command_lines.proofs.Pieces.{next_piece}
use Rattle.front_texts.specs.Page.{job_if_shown}
use Rattle.front_texts.proofs.web_page.push_job_rows.Goals as goal

pub loop-job-preserved : goal.loop-job-preserved
loop-job-preserved c = next_piece (job_if_shown c.args.queues.now (option_map (λ name. name.now) c.args.queue) (option_map (λ name. name.now) c.args.user)) c.args.jobs.now c.loop-job.job-index c.job-item.result c.args.page.now.items c.loop-job.page.items c.push_job_if_shown.new.page.items c.job-item.is c.loop-job-test.true c.loop-job.invariant c.in_ok-push_job_if_shown.ensures
