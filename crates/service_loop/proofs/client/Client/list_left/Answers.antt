-- The text of the incoming jobs over the table is added.
use Rattle.std.proofs.Common.{ap, ◌∙◌}
use Rattle.service_texts.specs.LeftJobs.{incoming_text}
use Rattle.service_loop.proofs.ClientStepLaws.{added_as}
use Rattle.service_loop.proofs.client.Client.list_left.Goals as goal

pub returns-clause-shown : goal.returns-clause-shown
returns-clause-shown g c =
    added_as c.add.result c.args.self.now _ _ c.add.new.self
    (c.deref.ensures.value ∙ c.in_ok-text.ensures ∙ ap (λ s. incoming_text c.args.shared.now.known.now s c.args.shared.now.known.left) c.table.ensures) c.add.ensures.added
