use Rattle.builtin_stages.proofs.EndLaws.{plainly}
use Rattle.builtin_stages.proofs.ends.report_fault.Goals as goal

pub returns-in_default : goal.returns-in_default
returns-in_default g c = plainly _ _ _ _ _ c.error_line.ensures c.write_line.ensures
