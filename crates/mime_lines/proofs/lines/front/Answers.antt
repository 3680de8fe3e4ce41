use Rattle.std.proofs.Common.{ap, sym, ◌∙◌}
use Rattle.mime_lines.specs.JoinedLines.{without_last}
use Rattle.mime_lines.proofs.LineLaws.{without_last_push}
use Rattle.mime_lines.proofs.lines.front.Goals as goal

pub returns-in-Some : goal.returns-in-Some
returns-in-Some c = sym (ap without_last c.in-Some.ensures.cases.0 ∙ without_last_push c.in-Some.before.now c.in-Some.field-0-0.now)
