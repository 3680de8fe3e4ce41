use Rattle.std.proofs.Common.{ap, sym, ◌∙◌}
use Rattle.mime_lines.specs.JoinedLines.{is_continued}
use Rattle.mime_lines.proofs.LineLaws.{continued_push}
use Rattle.mime_lines.proofs.lines.is_continued.Goals as goal

pub returns-in-Some : goal.returns-in-Some
returns-in-Some c = sym (ap is_continued c.in-Some.ensures.cases.0 ∙ continued_push c.in-Some.field-0-1.now c.in-Some.b.now)
