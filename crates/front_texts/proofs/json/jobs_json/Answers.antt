use Rattle.front_texts.specs.Json.{job_data}
use Rattle.front_texts.proofs.JsonLaws.{one_more, all_seen}
use Rattle.front_texts.proofs.json.jobs_json.Goals as goal

pub loop-job-preserved : goal.loop-job-preserved
loop-job-preserved c = one_more job_data c.args.jobs.now c.loop-job.job-index c.job-item.result c.loop-job.array.items c.push.new.self.items _ c.job-item.is c.loop-job-test.true c.loop-job.invariant c.in_ok-push.ensures.items c.in_ok-job_json.ensures.value

pub returns : goal.returns
returns c = record { value = all_seen job_data c.args.jobs.now c.loop-job.job-index c.loop-job.array c.loop-job-test.false c.loop-job.invariant }
