use Rattle.stderr_lines.proofs.ReportLaws.{all_taken}
use Rattle.stderr_lines.proofs.laws.any_pieces.Goals as goal

pub returns : goal.returns
returns c = all_taken
