use Rattle.std.proofs.Common.{ap, ◌∙◌, is_some}
use Rattle.fault_causes.proofs.RejectedLaws.{some_map}
use Rattle.fault_causes.proofs.lines.has_side.Goals as goal

pub returns : goal.returns
returns c = c.is_some.ensures ∙ some_map (λ program. program.now) c.side.result ∙ ap is_some c.side.ensures.value
