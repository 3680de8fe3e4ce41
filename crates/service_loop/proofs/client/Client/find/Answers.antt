-- The text of the job of a token over the table is added.
use Rattle.std.proofs.Common.{ap, ◌∙◌}
use Rattle.service_texts.specs.FoundTexts.{found_text}
use Rattle.service_loop.proofs.ClientStepLaws.{added_as}
use Rattle.service_loop.proofs.client.Client.find.Goals as goal

pub returns-clause-found : goal.returns-clause-found
returns-clause-found g c =
    added_as c.add.result c.args.self.now _ _ c.add.new.self
    (c.deref.ensures.value ∙ c.in_ok-text.ensures ∙ ap (λ s. found_text c.args.shared.now.known.tokens s c.args.token.now) c.table.ensures) c.add.ensures.added
