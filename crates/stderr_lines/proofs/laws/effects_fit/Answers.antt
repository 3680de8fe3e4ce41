use Rattle.stderr_lines.proofs.ReportLaws.{reported}
use Rattle.stderr_lines.proofs.laws.effects_fit.Goals as goal

pub returns : goal.returns
returns c = reported
