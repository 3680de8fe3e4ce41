-- As many are free as were, less the running children of the visited jobs.
use Rattle.std.proofs.Common.{◌≡◌, ◌-◌, length}
use Rattle.std.specs.FinMap as finite
use Rattle.std.specs.List.{filter}
use Rattle.print_rounds.specs.StageChecks.{runs}
use Rattle.print_rounds.proofs.FreeLaws.{jobs_ahead}
use Rattle.print_rounds.proofs.LookLaws.{jobs_to}
use Rattle.print_rounds.proofs.start_room.count_free.Given as goal

abbrev pub invariant-loop-job : goal.invariant-loop-job
invariant-loop-job g l = l.free ≡ l.most - length (filter (runs l.runner) (jobs_to l.behind (finite.keys l.runner)))

abbrev pub decreases-loop-job : goal.decreases-loop-job
decreases-loop-job g l = jobs_ahead l.behind
