-- One more job is recorded.
use Rattle.std.proofs.Common.{refl}
use Rattle.service_loop.specs.RecordedEvents.{due_deed}
use Rattle.service_loop.proofs.RecordLaws.{recorded_next}
use Rattle.service_loop.proofs.events.Records.record_due.Goals as goal

pub loop-job-preserved : goal.loop-job-preserved
loop-job-preserved c =
    recorded_next c.args.table.now.state c.args.self.now c.loop-job.self c.record.new.self due_deed c.args.jobs.now c.loop-job.job-index c.job-item.result _ c.loop-job-test.true c.job-item.is refl
    c.loop-job.invariant c.record.ensures
