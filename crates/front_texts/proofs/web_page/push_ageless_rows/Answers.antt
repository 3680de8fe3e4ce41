use Rattle.command_lines.proofs.Pieces.{next_piece}
use Rattle.front_texts.specs.Page.{ageless_html}
use Rattle.front_texts.proofs.web_page.push_ageless_rows.Goals as goal

pub loop-job-preserved : goal.loop-job-preserved
loop-job-preserved c = next_piece (ageless_html c.args.queues.now) c.args.jobs.now c.loop-job.job-index c.job-item.result c.args.page.now.items c.loop-job.page.items c.push_job.new.page.items c.job-item.is c.loop-job-test.true c.loop-job.invariant c.in_ok-push_job.ensures
