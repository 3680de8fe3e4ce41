-- No job so far is processing.
use Rattle.std.proofs.Common.{◌≡◌, drop}
use Rattle.front_texts.specs.Lpstat.{printing_job}
use Rattle.front_texts.proofs.lpstat.printing_job.Given as goal

abbrev pub invariant-loop-job : goal.invariant-loop-job
invariant-loop-job l = printing_job l.queue (drop l.job-index l.jobs) ≡ printing_job l.queue l.jobs
