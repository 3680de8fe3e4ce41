-- A client that stays is at rest, as its requests left it.
use Rattle.service_loop.proofs.client.Client.serve.Goals as goal

pub returns-in-Ok-true-clause-rests : goal.returns-in-Ok-true-clause-rests
returns-in-Ok-true-clause-rests g c = λ stays none. c.in-Ok-true.ensures.rests c.in-Ok-true.field-0-test none
