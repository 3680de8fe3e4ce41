-- Only jobs that are not purged were skipped.
use Rattle.std.proofs.Common.{◌≡◌, ◌≢◌, length}
use Rattle.service_rules.specs.Purges.{purged}
use Rattle.service_rules.proofs.purges.PurgesIterator.next.Given as goal

abbrev pub invariant-loop-job : goal.invariant-loop-job
invariant-loop-job l = (purged l.self-inside.left l.self-inside.jobs.now ≡ l.fn.self) × (l.self-inside.left ≢ 0)

abbrev pub decreases-loop-job : goal.decreases-loop-job
decreases-loop-job l = length l.self-inside.jobs.now
