-- The text of the listing over the table is added.
use Rattle.std.proofs.Common.{ap, ◌∙◌}
use Rattle.event_records.specs.SeenTimes.{job_times}
use Rattle.service_texts.specs.Listings.{listed_text}
use Rattle.service_loop.proofs.ClientStepLaws.{added_as}
use Rattle.service_loop.proofs.client.Client.list.Goals as goal

pub returns-clause-shown : goal.returns-clause-shown
returns-clause-shown g c =
    added_as c.add.result c.args.self.now _ _ c.add.new.self
    (c.deref.ensures.value ∙ c.in_ok-text.ensures ∙ ap (listed_text c.args.self.now.standing (job_times c.args.shared.now.records.seen) c.args.selection.now) c.table-table.ensures) c.add.ensures.added
