use Rattle.command_lines.proofs.AskedLaws.{text_asks}
use Rattle.command_lines.proofs.laws.only_line_events.Goals as goal

pub returns : goal.returns
returns c = text_asks
