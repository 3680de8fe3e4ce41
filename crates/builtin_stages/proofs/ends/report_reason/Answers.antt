use Rattle.std.proofs.Common.{◌∙◌}
use Rattle.builtin_stages.proofs.EndLaws.{told_line}
use Rattle.builtin_stages.proofs.ends.report_reason.Goals as goal

pub returns-in-Ok : goal.returns-in-Ok
returns-in-Ok g c = told_line _ _ _ _ (c.as_str.ensures.value ∙ c.in-Ok.ensures) c.write_line.ensures
