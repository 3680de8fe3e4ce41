use Rattle.std.proofs.Common.{length}
use Rattle.spool_scripts.proofs.Cuts.{around_part}
use Rattle.spool_scripts.proofs.cut.next_part.Goals as goal

pub returns-in-Some-clause-joined : goal.returns-in-Some-clause-joined
returns-in-Some-clause-joined c = around_part c.args.script.now _ c.in-Some.at (length c.args.line.now) c.in-Some.ensures.found.same
