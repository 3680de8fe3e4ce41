-- No job so far is active.
use Rattle.std.proofs.Common.{◌≡◌, drop}
use Rattle.spool_front.specs.Acts.{active_job}
use Rattle.spool_front.proofs.canceling.active_job.Given as goal

abbrev pub invariant-loop-job : goal.invariant-loop-job
invariant-loop-job l = active_job l.printing l.queue (drop l.job-index l.jobs) ≡ active_job l.printing l.queue l.jobs
