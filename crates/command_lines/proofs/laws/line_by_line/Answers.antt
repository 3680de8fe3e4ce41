use Rattle.command_lines.proofs.TextLaws.{commands_of-line}
use Rattle.command_lines.proofs.laws.line_by_line.Goals as goal

pub returns : goal.returns
returns c = commands_of-line
