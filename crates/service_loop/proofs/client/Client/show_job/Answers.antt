-- The text of the job over the table is added.
use Rattle.std.proofs.Common.{ap, ◌∙◌}
use Rattle.event_records.specs.SeenTimes.{job_times}
use Rattle.service_texts.specs.Shown.{shown_job}
use Rattle.service_loop.proofs.ClientStepLaws.{added_as}
use Rattle.service_loop.proofs.client.Client.show_job.Goals as goal

pub returns-clause-shown : goal.returns-clause-shown
returns-clause-shown g c =
    added_as c.add.result c.args.self.now _ _ c.add.new.self
    (c.deref.ensures.value ∙ c.in_ok-text.ensures ∙ ap (λ s. shown_job c.args.self.now.standing (job_times c.args.shared.now.records.seen) s c.args.job) c.table-table.ensures) c.add.ensures.added
