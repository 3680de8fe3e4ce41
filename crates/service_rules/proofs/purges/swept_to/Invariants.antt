-- The rest of the list gives the same number.
use Rattle.std.proofs.Common.{◌≡◌, drop}
use Rattle.service_rules.specs.Purges.{swept_to}
use Rattle.service_rules.proofs.purges.swept_to.Given as goal

abbrev pub invariant-loop-job : goal.invariant-loop-job
invariant-loop-job l = swept_to l.swept l.left (drop l.job-index l.jobs) ≡ swept_to l.cursor l.count l.jobs
