use Rattle.std.proofs.Common.{ap, ◌∙◌, is_some}
use Rattle.fault_causes.proofs.RejectedLaws.{some_map}
use Rattle.fault_causes.proofs.lines.has_backend.Goals as goal

pub returns : goal.returns
returns c = c.is_some.ensures ∙ some_map (λ program. program.now) c.backend.result ∙ ap is_some c.backend.ensures.value
