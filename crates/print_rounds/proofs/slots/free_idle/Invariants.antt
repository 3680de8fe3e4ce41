-- The slots up to the last visited job are retained or freed.
use Rattle.print_rounds.proofs.FreeLaws.{IsFreedTo, jobs_ahead}
use Rattle.print_rounds.proofs.slots.free_idle.Given as goal

abbrev pub invariant-loop-job : goal.invariant-loop-job
invariant-loop-job g l = IsFreedTo l.table.state l.initial.runner l.behind l.runner

abbrev pub decreases-loop-job : goal.decreases-loop-job
decreases-loop-job g l = jobs_ahead l.behind
