use Rattle.std.proofs.Common.{rules}
use Rattle.spool_runtime.proofs.device_lines.is_device_text.Goals as goal

pub returns-in-BadLine-clause-no : goal.returns-in-BadLine-clause-no
returns-in-BadLine-clause-no c same h = c.in-Err.ensures.bad (search rules) h.0 h.1
