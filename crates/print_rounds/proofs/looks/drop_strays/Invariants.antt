-- The strays up to the last visited job.
use Rattle.print_rounds.proofs.FreeLaws.{jobs_ahead}
use Rattle.print_rounds.proofs.LookLaws.{AreDroppedTo}
use Rattle.print_rounds.proofs.looks.drop_strays.Given as goal

abbrev pub invariant-loop-job : goal.invariant-loop-job
invariant-loop-job g l = AreDroppedTo l.waits l.table.state l.initial.runner (g.C.Children.tells l.initial.children) l.behind l.runner (g.C.Children.tells l.children)

abbrev pub decreases-loop-job : goal.decreases-loop-job
decreases-loop-job g l = jobs_ahead l.behind
